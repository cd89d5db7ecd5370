use Rattle.std.proofs.Common.{◌≡◌, ap, ◌∙◌, ℕ, ◌+◌, None, rules}
use Rattle.graph_rule.specs.Layout.{home}
use Rattle.wide_words.specs.WideHistory.{WideWorldType}
use Rattle.wide_rule.specs.Layout.{cell_count}
use Rattle.wide_rule.specs.Rule.{WideView}
use Rattle.wide_rule.specs.Values.{Belongs}
use Rattle.wide_graph.proofs.Searching.{begins}
use Rattle.table_tests.proofs.tests.wide_cells.claim_and_go.Goals as goal

pub claim_first-requires-clause-searched : goal.claim_first-requires-clause-searched
claim_first-requires-clause-searched c =
    let cells = c.capacity-cells.result + 32 in
    let belongs : Belongs c.split-other.result c.args.graph.now = search rules in
    let count : cells ≡ cell_count c.args.graph.now.world = ap (λ (n : ℕ). n + 32) (c.capacity-cells.ensures.capacity ∙ ap (λ (w : WideWorldType). w.capacity) c.world.ensures.value) in
    let at = c.home-cell.ensures.value ∙ ap (home cells) c.mixed.ensures in
    let idle : c.split-other.result.view.dues.pending ≡ None = ap (λ (v : WideView). v.dues.pending) c.split-other.ensures.child in
    (begins c.split-other.result c.args.graph.now c.in_ok-code.code cells c.home-cell.result belongs count at idle).at.searched

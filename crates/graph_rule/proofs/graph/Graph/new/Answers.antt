use Rattle.std.proofs.Common.{◌≡◌, sym, ap, subst, ◌∙◌, ◌+◌, ◌*◌, rules}
use Rattle.crystal_cartan.specs.Types.{CartanType}
use Rattle.tensor_words.specs.Spaces.{SpaceType}
use Rattle.graph_history.specs.Views.{View}
use Rattle.graph_rule.specs.Layout.{word_count}
use Rattle.graph_rule.specs.Rule.{IsKnown}
use Rattle.graph_rule.specs.Parting.{first_view}
use Rattle.graph_rule.proofs.Opening.{first_known, opens}
use Rattle.graph_rule.proofs.graph.Graph.new.Goals as goal

pub of_words-requires : goal.of_words-requires
of_words-requires c =
    let cells : c.cells-cells.result ≡ c.args.world.cells = c.cells-cells.ensures.cells in
    let rank : c.rank-rank.result ≡ c.args.world.space.cartan.rank =
    c.rank-rank.ensures.rank ∙ ap (λ (t : CartanType). t.rank) (c.cartan.ensures.cartan ∙ ap (λ (s : SpaceType). s.cartan) c.space.ensures.space) in
    let count : 1 + c.cells-cells.result + c.cells-cells.result * (2 * c.rank-rank.result) ≡ word_count c.args.world = λ i. 1 + cells i + cells i * (2 * rank i) in
    opens c.args.world c.cells-cells.ensures.world c.as_slice.result.now _ count (c.as_slice.ensures.value ∙ c.in_ok-words.ensures.items_if_clones_equal (λ y same. same))

pub first-requires-clause-known : goal.first-requires-clause-known
first-requires-clause-known c =
    let is : c.in_ok-board.token.me.0 ≡ first_view c.args.world = search rules in
    subst (λ (v : View). IsKnown v) (sym is) (first_known c.args.world c.cells-cells.ensures.world)

-- Where a growth from all unpaid cells closes, nothing is unpaid.
use Rattle.std.proofs.Common.{◌≡◌, ◌∙◌, sym, ap, subst, ℕ, List, [], ◌∷◌, ◌++◌, All}
use Rattle.std.proofs.lemmas.List.Elements.{All-nil}
use Rattle.graph_history.specs.Views.{View}
use Rattle.graph_history.specs.History.{state_of, IsWhole}
use Rattle.crystal_growers.specs.declared.growth.Grown.{Grown}
use Rattle.crystal_growers.specs.Growth.{IsGrown}
use Rattle.crystal_growers.proofs.Ended.{nothing_unpaid}
use Rattle.growth_tests.proofs.tests.growths.grow_from.Goals as goal

pub settle-closed-requires-clause-finished : goal.settle-closed-requires-clause-finished
settle-closed-requires-clause-finished g c =
    let before = c.add.new.seat.view in
    let after = c.grow.new.seat.view in
    let cells = c.in_ok-cells.cells.items in
    let grown = subst (λ (a : Grown). IsGrown before after cells c.args.growers a) c.in-Closed.is c.in_ok-grow.ensures.grown in
    let unpaid : before.dues.unpaid ≡ cells = ap (λ (v : View). v.dues.unpaid) c.in-New.ensures.entry.went.is ∙ ap (λ (v : View). v.dues.unpaid ++ c.in-New.cell ∷ []) c.requires.new ∙ sym c.in_ok-cells.ensures.items in
    let none : c.tally-debts.new.seat.view.dues.unpaid ≡ [] = ap (λ (v : View). v.dues.unpaid) c.tally-debts.ensures.view.is ∙ nothing_unpaid before after cells c.args.growers unpaid grown in
    let whole = IsWhole c.tally-debts.new.seat.view.world (state_of c.tally-debts.new.seat.view.front) in
    subst (λ (l : List ℕ). All whole l) (sym none) (All-nil whole)

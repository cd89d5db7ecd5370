use Rattle.std.proofs.Common.{◌∙◌, ap, sym, subst, ℕ, List, All}
use Rattle.graph_history.specs.History.{state_of, HasSome}
use Rattle.graph_rule.specs.Parting.{hand_right}
use Rattle.graph_rule.specs.Values.{GraphValue}
use Rattle.parcel_deques.specs.Parcels.{IsHanded}
use Rattle.parcel_deques.proofs.Handing.{unpaid_there, handed_on}
use Rattle.parcel_deques.proofs.parcel.Parcel.hand.Goals as goal

pub hand-child-requires-clause-vertices : goal.hand-child-requires-clause-vertices
hand-child-requires-clause-vertices g c = subst (λ (l : List ℕ). All (HasSome (state_of c.args.seat.now.view.front)) l) (sym c.as_slice.ensures) (unpaid_there c.args.seat.now.view c.args.cells c.reveal.ensures.known c.requires.unpaid)

pub new-requires : goal.new-requires
new-requires g c = subst (λ (h : GraphValue). IsHanded h c.args.cells c.hand-child.result) (sym c.requires.named)
    (handed_on c.args.graph.now c.args.seat.now c.hand-child.result c.args.stake c.args.cells c.requires.belongs c.reveal.ensures.known c.requires.few c.requires.once c.requires.unpaid c.hand-child.ensures.table.1
    (c.hand-child.ensures.child ∙ ap (λ (l : List ℕ). hand_right 1 c.args.stake l c.args.seat.now.view) c.as_slice.ensures))

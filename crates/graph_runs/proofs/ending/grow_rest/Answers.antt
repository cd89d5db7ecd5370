use Rattle.std.proofs.Common.{sym, subst, Some}
use Rattle.crystal_growers.proofs.Ended.{nothing_unpaid}
use Rattle.graph_rule.specs.Values.{SeatValue}
use Rattle.graph_runs.specs.Ending.{IsOver}
use Rattle.graph_runs.proofs.Endings.{can_draw, covers, grown_front, roots_stay, over, over_full}
use Rattle.graph_runs.proofs.ending.grow_rest.Goals as goal

pub grow-requires-clause-can : goal.grow-requires-clause-can
grow-requires-clause-can g c κs within =
    can_draw c.args.graph.now c.args.seat.now c.args.cells.items c.requires.can.belongs c.requires.can.pledge c.reveal.ensures.known c.requires.unpaid

pub grow-requires-clause-owed : goal.grow-requires-clause-owed
grow-requires-clause-owed g c κs within =
    covers c.args.seat.now c.args.cells.items c.requires.can.stake c.reveal.ensures.known c.reveal.ensures.complete c.requires.unpaid

pub number_all-requires-clause-unpaid : goal.number_all-requires-clause-unpaid
number_all-requires-clause-unpaid g c =
    nothing_unpaid c.args.seat.now.view c.grow.new.seat.view c.args.cells.items c.args.growers c.requires.unpaid (rw c.in-Ok-Closed.field-0-is at c.in-Ok-Closed.ensures.grown)

pub number_all-requires-clause-roots : goal.number_all-requires-clause-roots
number_all-requires-clause-roots g c =
    roots_stay c.args.graph.now.world c.args.seat.now.view.front c.grow.new.seat.view.front
    (grown_front c.args.seat.now.view c.grow.new.seat.view c.args.cells.items c.args.growers _ c.in-Ok-Closed.ensures.grown) c.requires.roots

pub returns-in-Ok : goal.returns-in-Ok
returns-in-Ok g c =
    subst (λ (s : SeatValue). IsOver c.args.graph.now c.args.seat.now s (Some c.in-Ok.finished)) (sym c.in-Ok.ensures.same)
    (over c.args.graph.now c.args.seat.now c.grow.new.seat c.args.cells.items c.args.growers _ c.requires.can c.in-Ok-Closed.ensures.table c.in-Ok-Closed.ensures.grown (Some c.in-Ok.finished) c.in-Ok.ensures.ends)

pub returns-in-Ok-Full : goal.returns-in-Ok-Full
returns-in-Ok-Full g c =
    over_full c.args.graph.now c.args.seat.now c.grow.new.seat c.args.cells.items c.args.growers c.in-Ok-Full.field-0-0 c.requires.can c.in-Ok-Full.ensures.table
    (rw c.in-Ok-Full.field-0-is at c.in-Ok-Full.ensures.grown)

-- A seat is handed the cells that were not loaded, and joins again.
use Rattle.crystal_growers.proofs.Closing.{child_waits, has_finished, lost_handed}
use Rattle.crystal_growers.proofs.growth.closing.draw_rest.Goals as goal

pub clear-requires-clause-waiting : goal.clear-requires-clause-waiting
clear-requires-clause-waiting g c = λ none.
    child_waits c.args.graph.now c.args.seat.now c.hand-child.result c.args.rest.now c.requires.belongs c.hand-child.ensures.table.1 c.hand-child.ensures.child c.hand-child.ensures.known.1 c.requires.once (c.requires.unpaid none)

pub returns-in-Ok-clause-finished : goal.returns-in-Ok-clause-finished
returns-in-Ok-clause-finished g c =
    has_finished c.args.graph.now c.args.seat.now c.hand-child.new.self c.hand-child.result c.in-Ok.field-0.seat c.join.new.self c.args.benches.now.items c.args.rest.now c.requires.belongs c.requires.pledge c.requires.stake
    c.hand-child.ensures.table.0 c.hand-child.ensures.parent c.hand-child.ensures.known.0 c.hand-child.ensures.child c.hand-child.ensures.known.1 c.in-Ok.ensures.0
    c.join.ensures.table c.join.ensures.view c.join.ensures.front.0 c.join.ensures.front.1 c.args.full c.in-Ok.field-0.full c.in-Ok.ensures.1

pub returns-clause-fault : goal.returns-clause-fault
returns-clause-fault g c = lost_handed c.args.seat.now c.hand-child.new.self c.args.rest.now c.hand-child.ensures.table.0 c.hand-child.ensures.parent

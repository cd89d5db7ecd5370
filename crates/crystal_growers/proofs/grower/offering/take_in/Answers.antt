-- The seat joins with what it was handed.
use Rattle.std.proofs.Common.{subst}
use Rattle.graph_rule.specs.Values.{GraphValue, Belongs}
use Rattle.crystal_growers.proofs.Acting.{works_joined}
use Rattle.crystal_growers.proofs.Waiting.{handed_here, waits_joined}
use Rattle.crystal_growers.proofs.grower.offering.take_in.Goals as goal

pub join-requires-clause-other_belongs : goal.join-requires-clause-other_belongs
join-requires-clause-other_belongs g c = subst (λ (h : GraphValue). Belongs c.into_parts-other.result.0 h) c.requires.named c.into_parts-other.ensures.handed.belongs

pub returns-clause-works : goal.returns-clause-works
returns-clause-works g c =
    let p = c.into_parts-other in
    works_joined c.args.graph.now c.args.seat.now p.result.0 c.join.new.self c.args.parcel c.requires.belongs c.reveal.ensures.known c.requires.pledge
    (handed_here c.args.graph.now _ p.result.0 c.args.parcel p.result.1 c.requires.named p.ensures.cells p.ensures.handed) p.ensures.stake c.join.ensures.table c.join.ensures.view c.join.ensures.front.0

pub returns-clause-waits : goal.returns-clause-waits
returns-clause-waits g c xs free =
    let p = c.into_parts-other in
    waits_joined c.args.graph.now c.args.seat.now p.result.0 c.join.new.self xs c.args.parcel.cells c.join.ensures.table c.join.ensures.view c.join.ensures.front.0 free
    (handed_here c.args.graph.now _ p.result.0 c.args.parcel p.result.1 c.requires.named p.ensures.cells p.ensures.handed)

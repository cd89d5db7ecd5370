-- The sweep is the whole shift.
use Rattle.crystal_growers.proofs.Running.{swept_working, swept_stops}
use Rattle.crystal_growers.proofs.grower.end_shift.Goals as goal

pub returns-in-Ok : goal.returns-in-Ok
returns-in-Ok g c =
    let d = c.in-Ok.field-0 in
    let s = c.in-Ok.ensures.ok in
    record {
      working = swept_working c.args.graph.now c.args.seat d.seat c.args.bench c.sweep.new.bench s.0;
      stopped = swept_stops c.args.graph.now c.args.seat d.seat c.args.bench c.sweep.new.bench d.full c.ending_of-ending.result s.0 s.1 c.ending_of-ending.ensures;
    }

pub returns : goal.returns
returns g c = record { working = c.in-Err.ensures.fault; stopped = tt }

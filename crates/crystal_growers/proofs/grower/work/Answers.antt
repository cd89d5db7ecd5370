-- Each parcel is run after those before it.
use Rattle.std.proofs.Common.{◌≡◌, ◌∙◌, ap}
use Rattle.parcel_deques.specs.Benches.{BenchValue, FoundOwnEmpty}
use Rattle.parcel_deques.proofs.EndSteps.{of_none}
use Rattle.crystal_growers.proofs.Running.{working_none, working_run, working_known, working_swept, failed_stops, none_stops}
use Rattle.crystal_growers.proofs.grower.work.Goals as goal

pub parcels-init : goal.parcels-init
parcels-init g c =
    let s = c.args.start in
    record {
      working = working_none c.args.graph.now s.seat s.bench c.requires.free.can.belongs c.reveal.ensures.known c.requires.free.can.pledge;
      free = c.requires.free;
    }

pub returns-in_default : goal.returns-in_default
returns-in_default g c =
    let s = c.args.start in
    record { working = working_none c.args.graph.now s.seat s.bench c.requires.free.can.belongs c.reveal.ensures.known c.requires.free.can.pledge; stopped = tt }

pub take-requires : goal.take-requires
take-requires g c = ap (λ (b : BenchValue). b.away) c.parcels.invariant.working.served.is ∙ c.requires.away

pub returns-in_default-take : goal.returns-in_default-take
returns-in_default-take g c =
    let i = c.parcels.invariant in
    let w = i.working.worked.acted in
    let none : (c.take.new.bench.taken ≡ c.parcels.bench.taken) × FoundOwnEmpty c.parcels.bench = of_none c.take.result c.in_default-take.not-Some c.take.ensures.none in
    record {
      working = working_known c.args.graph.now c.args.start.seat c.parcels.seat c.args.start.bench c.parcels.bench i.working c.take.new.bench c.take.ensures.same none.0 w.belongs w.known w.pledge;
      stopped = none_stops c.args.graph.now c.parcels.seat c.parcels.bench c.take.new.bench i.free c.take.ensures.same none.0 none.1;
    }

pub returns-in-Err : goal.returns-in-Err
returns-in-Err g c =
    let i = c.parcels.invariant in
    let r = c.in-Err.stopped in
    record {
      working = working_run c.args.graph.now c.args.start.seat c.parcels.seat c.args.start.bench c.parcels.bench i.working r.seat c.take.new.bench c.run.new.bench c.in-Some.parcel c.take.ensures.same c.in-Some.ensures.some c.in-Err.ensures.0;
      stopped = failed_stops c.args.graph.now r.seat c.run.new.bench r.ending c.in-Err.ensures.1;
    }

pub parcels-preserved : goal.parcels-preserved
parcels-preserved g c =
    let i = c.parcels.invariant in
    let r = c.in-Ok-run.ready in
    record {
      working = working_run c.args.graph.now c.args.start.seat c.parcels.seat c.args.start.bench c.parcels.bench i.working r.seat c.take.new.bench c.run.new.bench c.in-Some.parcel c.take.ensures.same c.in-Some.ensures.some c.in-Ok-run.ensures.0;
      free = c.in-Ok-run.ensures.1;
    }

pub returns : goal.returns
returns g c =
    let i = c.parcels.invariant in
    record {
      working = working_swept c.args.graph.now c.args.start.seat c.parcels.seat c.args.start.bench c.parcels.bench i.working c.end_shift.result.seat c.end_shift.result.bench c.end_shift.ensures.working;
      stopped = c.end_shift.ensures.stopped;
    }

-- So far parcels were taken and run, and nothing waits.
use Rattle.std.proofs.Common.{[]}
use Rattle.crystal_growers.specs.Drawing.{IsWaiting}
use Rattle.crystal_growers.specs.Grower.{IsWorking}
use Rattle.crystal_growers.proofs.grower.work.Given as goal

abbrev pub invariant-parcels : goal.invariant-parcels
invariant-parcels g l = record {
  working : IsWorking l.graph l.fn.start.seat l.seat l.fn.start.bench l.bench;
  free : IsWaiting l.graph [] l.seat;
}

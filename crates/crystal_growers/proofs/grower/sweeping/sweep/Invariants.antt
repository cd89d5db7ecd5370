-- The parcels so far were taken.
use Rattle.std.proofs.Common.{◌-◌, List, length}
use Rattle.parcel_deques.specs.declared.parcel.Slip.{Slip}
use Rattle.parcel_deques.specs.Parcels.{owned_by}
use Rattle.crystal_growers.specs.Grower.{IsSweeping, GoesOn}
use Rattle.crystal_growers.proofs.grower.sweeping.sweep.Given as goal

abbrev pub invariant-parcels : goal.invariant-parcels
invariant-parcels g l = record {
  got : List Slip;
  sweeping : IsSweeping l.graph l.fn.swept.seat l.swept.seat l.fn.bench l.bench got;
  goes : GoesOn l.fn.swept.full l.graph l.swept.seat l.swept.full;
}

abbrev pub decreases-parcels : goal.decreases-parcels
decreases-parcels g l = length l.bench.pushed - length (owned_by l.bench.number l.bench.taken)

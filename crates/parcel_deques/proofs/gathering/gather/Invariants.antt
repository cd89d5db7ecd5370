-- The benches before the place have swapped passes with each other.
use Rattle.parcel_deques.specs.Swapping.{AreSwapping}
use Rattle.parcel_deques.proofs.gathering.gather.Given as goal

abbrev pub invariant-loop-second : goal.invariant-loop-second
invariant-loop-second g l = AreSwapping 0 l.second l.fn.benches.items l.benches.items

-- The bench has swapped passes with those before the place.
use Rattle.std.proofs.Common.{◌<◌, List, length}
use Rattle.parcel_deques.specs.Benches.{BenchValue}
use Rattle.parcel_deques.specs.Swapping.{AreSwapping}
use Rattle.parcel_deques.proofs.gathering.swap_with_earlier.Given as goal

abbrev pub invariant-loop-first : goal.invariant-loop-first
invariant-loop-first g l = (old : List BenchValue) → l.second < length old → AreSwapping 0 l.second old l.fn.benches.items → AreSwapping l.first l.second old l.benches.items

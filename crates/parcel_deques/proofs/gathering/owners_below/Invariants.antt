-- It is shown of the benches so far.
use Rattle.std.proofs.Common.{ℕ, ◌<◌, length, get_or}
use Rattle.parcel_deques.specs.Parcels.{AllBelow}
use Rattle.parcel_deques.specs.Benches.{BenchValue}
use Rattle.parcel_deques.proofs.gathering.owners_below.Given as goal

abbrev pub invariant-loop-bench : goal.invariant-loop-bench
invariant-loop-bench g l = (k : ℕ) (d : BenchValue) → k < l.bench-index → AllBelow (length (get_or l.benches k d).call) (get_or l.benches k d).taken

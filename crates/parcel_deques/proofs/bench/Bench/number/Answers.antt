use Rattle.parcel_deques.proofs.BenchSteps.{all_below}
use Rattle.parcel_deques.proofs.bench.Bench.number.Goals as goal

pub returns-clause-below : goal.returns-clause-below
returns-clause-below g c = rw (← c.self.view_is) (all_below _ _ c.self.invariant)

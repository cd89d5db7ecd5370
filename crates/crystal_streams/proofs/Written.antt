-- A fault of the later of two calls is one of both.
use Rattle.std.proofs.Common.{ℕ, ◌≤◌, Result, Ok, Err, arith}
use Rattle.crystal_streams.specs.Faults.{Rose}
use Rattle.std.specs.Prelude.{OnErr}

pub then_fault : {T E : Type 0} (before middle after : ℕ) (result : Result T E) → before ≤ middle → OnErr result (Rose middle after) → OnErr result (Rose before after)
then_fault before middle after (Ok value) first second = tt
then_fault before middle after (Err error) first second = omega arith

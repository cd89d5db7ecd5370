use Rattle.parcel_deques.specs.Ends.{Each, IsBetween}
use Rattle.parcel_deques.proofs.ends.steal_between.Given as goal

abbrev pub invariant-loop-place : goal.invariant-loop-place
invariant-loop-place g l = Each (IsBetween l.from l.place) l.initial.ends.items l.ends.items

-- What was left in the first deques is taken.
use Rattle.crystal_growers.specs.Grower.{GoesOn}
use Rattle.crystal_growers.proofs.Clearing.{IsClearing}
use Rattle.crystal_growers.proofs.growth.closing.clear.Given as goal

abbrev pub invariant-benches : goal.invariant-benches
invariant-benches g l = record {
  clearing : IsClearing l.graph l.fn.swept.seat l.swept.seat l.fn.benches.items l.benches.items l.place;
  goes : GoesOn l.fn.swept.full l.graph l.swept.seat l.swept.full;
}

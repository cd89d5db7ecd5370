use Rattle.parcel_deques.proofs.Moves.{takes, finds_few}
use Rattle.parcel_deques.proofs.ends.End.steal.Goals as goal

pub steal_as-requires-clause-takes : goal.steal_as-requires-clause-takes
steal_as-requires-clause-takes g c = takes _ _ (c.self.invariant.1 c.in-Some.pass c.in-Some.is).1

pub steal_as-requires-clause-empty : goal.steal_as-requires-clause-empty
steal_as-requires-clause-empty g c = finds_few _ _ _ c.self.invariant.0

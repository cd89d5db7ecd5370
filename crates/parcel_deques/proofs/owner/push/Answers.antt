use Rattle.parcel_deques.proofs.Moves.{loads}
use Rattle.parcel_deques.proofs.owner.push.Goals as goal

pub push_as-requires-clause-pushes : goal.push_as-requires-clause-pushes
push_as-requires-clause-pushes g c = loads _ _ _ c.requires.pushes c.requires.live c.requires.tag

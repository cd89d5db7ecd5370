use Rattle.parcel_deques.proofs.Moves.{merges}
use Rattle.parcel_deques.proofs.owner.absorb.Goals as goal

pub absorb-requires-clause-rule : goal.absorb-requires-clause-rule
absorb-requires-clause-rule g c = merges _ _ _ _ c.requires.live.0 c.requires.live.1 c.requires.live.2

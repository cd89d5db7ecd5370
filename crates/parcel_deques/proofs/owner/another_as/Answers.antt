use Rattle.parcel_deques.proofs.Moves.{forks}
use Rattle.parcel_deques.proofs.owner.another_as.Goals as goal

pub another-requires : goal.another-requires
another-requires g c = forks _ _ _ _ c.requires.live.0 c.requires.live.1 (rw c.requires.asked.0 c.requires.deque)

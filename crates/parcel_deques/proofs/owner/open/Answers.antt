use Rattle.parcel_deques.proofs.Moves.{begins}
use Rattle.parcel_deques.proofs.owner.open.Goals as goal

pub fifo_as-requires : goal.fifo_as-requires
fifo_as-requires g c = begins

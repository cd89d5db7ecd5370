use Rattle.shared_seats.proofs.laws.seats_open.Goals as goal
use Rattle.shared_seats.proofs.Opening.{opens}

pub returns : goal.returns
returns g c = λ whole by key dues some_stake. opens whole by key dues some_stake

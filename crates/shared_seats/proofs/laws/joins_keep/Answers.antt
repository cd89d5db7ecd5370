use Rattle.shared_seats.proofs.laws.joins_keep.Goals as goal
use Rattle.shared_seats.proofs.Joining.{joins_up}

pub returns : goal.returns
returns g c = λ whole by key views h r id v at live other w at_other live_other apart mix spent is_spent.
    joins_up whole by key views h r id v at live other w at_other live_other apart mix spent is_spent

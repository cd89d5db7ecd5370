use Rattle.shared_seats.proofs.laws.whole_is_alone.Goals as goal
use Rattle.shared_seats.proofs.Steps.{alone, all_seen}

pub returns : goal.returns
returns g c = λ whole by key views h r id v at live all. (alone whole by key views h r id v at live all, all_seen whole by key views h r id v at live all)

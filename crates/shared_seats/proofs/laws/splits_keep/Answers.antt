use Rattle.shared_seats.proofs.laws.splits_keep.Goals as goal
use Rattle.shared_seats.proofs.Splitting.{cuts}

pub returns : goal.returns
returns g c = λ whole by key views h r id v at parent child count stake some_numbers numbers some_stake less.
    cuts whole by key views h r id v at parent child count stake some_numbers numbers some_stake less

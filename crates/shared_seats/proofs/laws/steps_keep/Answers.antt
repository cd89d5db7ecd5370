use Rattle.shared_seats.proofs.laws.steps_keep.Goals as goal
use Rattle.shared_seats.proofs.Steps.{steps}

pub returns : goal.returns
returns g c = λ whole by key views h r id v at live es dues mine none. steps whole by key views h r id v at live es dues mine none

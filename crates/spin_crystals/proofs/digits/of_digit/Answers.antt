use Rattle.spin_crystals.proofs.Places.{signs_at-half, signs_digit-at}
use Rattle.std.proofs.Common.{◌<◌, arith}
use Rattle.spin_crystals.specs.Signs.{half_size}
use Rattle.spin_crystals.proofs.digits.of_digit.Goals as goal

pub returns-clause-parity : goal.returns-clause-parity
returns-clause-parity c = rw c.vector_at.ensures.vector (signs_at-half c.args.half c.args.cartan.rank c.args.d)

pub returns-clause-back : goal.returns-clause-back
returns-clause-back c =
    let below : c.args.d < half_size c.args.half c.args.cartan.rank = omega arith in
    rw c.vector_at.ensures.vector (signs_digit-at c.args.half c.args.cartan.rank c.args.d below)

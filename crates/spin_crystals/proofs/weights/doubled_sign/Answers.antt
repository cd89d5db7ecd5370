use Rattle.spin_crystals.proofs.SignWeights.{minus_coordinate, plus_coordinate}
use Rattle.spin_crystals.proofs.weights.doubled_sign.Goals as goal

pub returns-then-x-j-eq1 : goal.returns-then-x-j-eq1
returns-then-x-j-eq1 c = minus_coordinate c.args.x.size c.args.x.bits c.args.j c.requires.low c.requires.high c.if-x-j-eq1.true

pub returns-else-x-j-eq1 : goal.returns-else-x-j-eq1
returns-else-x-j-eq1 c = plus_coordinate c.args.x.size c.args.x.bits c.args.j c.requires.low c.requires.high c.if-x-j-eq1.false

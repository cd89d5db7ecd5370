use Rattle.spin_crystals.proofs.Places.{whole_bits, half_bits, digit_value, digit_back}
use Rattle.spin_crystals.proofs.digits.digit.Goals.{in-Whole, in-Plus}
use Rattle.spin_crystals.proofs.digits.digit.Goals as goal

pub returns-clause-value : goal.returns-clause-value
returns-clause-value c =
    digit_value c.args.cartan c.args.x c.args.half c.match-half.bits c.rank-rank.ensures.classical c.requires.element
    (elim c.match-half.branch [
      | in-Whole w ↦ whole_bits c.args.half c.match-half.bits c.args.x.bits w.in-Whole.is w.bits-is
      | in-Plus w ↦ half_bits c.args.half c.match-half.bits c.args.x.bits w.in-Plus.is w.bits-is
    ])

pub returns-clause-back : goal.returns-clause-back
returns-clause-back c =
    digit_back c.args.cartan c.args.x c.args.half c.match-half.bits c.rank-rank.ensures.classical c.requires.element c.requires.parity
    (elim c.match-half.branch [
      | in-Whole w ↦ whole_bits c.args.half c.match-half.bits c.args.x.bits w.in-Whole.is w.bits-is
      | in-Plus w ↦ half_bits c.args.half c.match-half.bits c.args.x.bits w.in-Plus.is w.bits-is
    ])

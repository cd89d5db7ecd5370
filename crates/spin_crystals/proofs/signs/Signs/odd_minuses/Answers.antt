use Rattle.std.proofs.Common.{◌≤◌, ◌<◌, ◌^◌, sym, ◌∙◌, arith}
use Rattle.std.proofs.Math.Nat.{mod-eq_of_lt, pow-le-pow_right}
use Rattle.std.proofs.lemmas.Nat.{one_shl, and_mask}
use Rattle.spin_crystals.proofs.Places.{odd_of_low_bits}
use Rattle.spin_crystals.proofs.signs.Signs.odd_minuses.Goals.{then-size-lt8, else-size-lt8}
use Rattle.spin_crystals.proofs.signs.Signs.odd_minuses.Goals as goal

pub returns : goal.returns
returns c =
    odd_of_low_bits c.args.self.now.size c.args.self.now.bits c.if-size-lt8.signs c.has_odd_ones.result
    (elim c.if-size-lt8.branch [
      | then-size-lt8 w ↦ rw (w.signs-is, one_shl c.args.self.now.size 8 w.if-size-lt8.true) (and_mask c.args.self.now.bits c.args.self.now.size)
      | else-size-lt8 w ↦
          let most : 2 ^ 8 ≤ 2 ^ c.args.self.now.size = pow-le-pow_right (omega arith) w.if-size-lt8.false in
          let small : c.args.self.now.bits < 2 ^ c.args.self.now.size = omega arith in
          w.signs-is ∙ sym (mod-eq_of_lt small)
    ])
    c.has_odd_ones.ensures

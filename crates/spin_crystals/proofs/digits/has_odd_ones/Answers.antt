use Rattle.std.proofs.Common.{refl, ◌∙◌}
use Rattle.std.proofs.Math.Nat.{mod-eq_of_lt}
use Rattle.spin_crystals.proofs.Places.{odd_ones}
use Rattle.spin_crystals.proofs.digits.has_odd_ones.Goals as goal

pub returns : goal.returns
returns c = λ n below. odd_ones n c.args.bits ∙ rw (mod-eq_of_lt below) refl

use Rattle.std.proofs.Common.{◌≡◌, ◌<◌, ◌≤◌, ◌^◌, ◌*◌, ◌%◌, ◌-◌, arith, ℕ, Bool, true, false, bit_or, ◌++◌, ◌∷◌, []}
use mir.Val.{bool_byte}
use Rattle.std.proofs.Math.Nat.{mod-eq_of_lt, pow-le-pow_right}
use Rattle.std.proofs.lemmas.Nat.{or_shifted}
use Rattle.spin_crystals.specs.Signs.{signs_of_number}
use Rattle.spin_crystals.proofs.Places.{signs_of_number-more}
use Rattle.spin_crystals.proofs.digits.with_last.Goals as goal

sign_below : (s : Bool) → bool_byte s < 2 ^ 1
sign_below true = omega arith
sign_below false = omega arith

with_sign : (size d : ℕ) (last : Bool) → 1 ≤ size → size ≤ 8 → d < 2 ^ (size - 1) →
    signs_of_number size (bit_or (d * 2 % 256) (bool_byte last)) ≡ signs_of_number (size - 1) d ++ last ∷ []
with_sign size d last low high below =
    let order : size - 1 ≤ 7 = omega arith in
    let most : 2 ^ (size - 1) ≤ 2 ^ 7 = pow-le-pow_right (omega arith) order in
    let fits : d * 2 < 256 = omega arith in
    rw (mod-eq_of_lt fits, or_shifted d 1 (bool_byte last) (sign_below last)) (signs_of_number-more size d last low)

pub returns-clause-vector : goal.returns-clause-vector
returns-clause-vector c = with_sign c.args.size c.args.d c.args.last c.requires.size.0 c.requires.size.1 c.requires.below

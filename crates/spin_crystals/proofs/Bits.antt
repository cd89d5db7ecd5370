-- Vectors of signs and the bits of their numbers.
use Rattle.std.proofs.Common.{◌≡◌, refl, sym, ap, ℕ, zero, suc, ◌+◌, ◌*◌, ◌/◌, ◌%◌, ◌^◌, ◌≤◌, ◌<◌, nat_le, if◌then◌else◌, ◌++◌, length, arith, zero-add, add-one}
use Rattle.std.specs.Prelude.{bit_xor}
use Rattle.std.specs.Int.Bits.{xor_zero_r}
use Rattle.std.proofs.Math.Nat.{mod-one, mul-mod_left, div-eq_of_lt, le-div_iff_mul-le}
use Rattle.std.proofs.lemmas.Nat.{pow_pos, pow-add, field_of, shl-shr, shl_below, xor_shr, xor_mod, mod-pow-add, mod_below, le-div}
use Rattle.std.proofs.Math.Pow.{mod-mod-pow}
use Rattle.std.proofs.lemmas.Bool.Decides.{nat_tests}
use Rattle.spin_crystals.specs.Signs.{signs_of_number, number_of_signs}

pub length-signs_of_number : (n b : ℕ) → length (signs_of_number n b) ≡ n
length-signs_of_number zero b = refl
length-signs_of_number (suc n) b = ap suc (length-signs_of_number n b)

-- a number is at least a * p just if its quotient by p is at least a
pub nat_le-div : (a p c : ℕ) → 0 < p → nat_le (a * p) c ≡ nat_le a (c / p)
nat_le-div a p c positive =
    let up : a * p ≤ c → a ≤ c / p = le-div a c p positive in
    let down : a ≤ c / p → a * p ≤ c = (le-div_iff_mul-le positive).0 in
    grind (arith, nat_tests, up, down)

-- the signs above j others are those of the number shifted by j
pub signs_of_number-split : (m j b : ℕ) → signs_of_number (m + j) b ≡ signs_of_number m (b / 2 ^ j) ++ signs_of_number j b
signs_of_number-split zero j b = rw (zero-add j) refl
signs_of_number-split (suc m) j b =
    let next : suc m + j ≡ suc (m + j) = omega arith in
    let size : m + j + 1 ≡ m + 1 + j = omega arith in
    rw (next, signs_of_number-split m j b, pow-add 2 m j, nat_le-div (2 ^ m) (2 ^ j) (b % 2 ^ (m + j + 1)) (pow_pos j), size, field_of b (m + 1) j) refl

-- only the last n bits count
pub signs_of_number-mod : (n b c : ℕ) → b % 2 ^ n ≡ c % 2 ^ n → signs_of_number n b ≡ signs_of_number n c
signs_of_number-mod zero b c same = refl
signs_of_number-mod (suc n) b c same =
    let longer : b % 2 ^ (n + 1) ≡ c % 2 ^ (n + 1) = rw (add-one n) same in
    let one : 1 + n ≡ suc n = omega arith in
    let shorter : b % 2 ^ n ≡ c % 2 ^ n = rw (← mod-mod-pow b 1 n, one, same, ← one) (mod-mod-pow c 1 n) in
    rw (longer, signs_of_number-mod n b c shorter) refl

binary_step : (q s p : ℕ) → q < 2 → s < p → (if nat_le p (q * p + s) then p else 0) + s ≡ q * p + s
binary_step zero s p low below = grind (arith, nat_tests)
binary_step (suc zero) s p low below = grind (arith, nat_tests)
binary_step (suc (suc q)) s p low below = absurd (omega arith)

pub number_of_signs_of : (n b : ℕ) → number_of_signs (signs_of_number n b) ≡ b % 2 ^ n
number_of_signs_of zero b = sym (mod-one b)
number_of_signs_of (suc n) b =
    let one : n + 1 ≡ 1 + n = omega arith in
    let same : 1 + n ≡ suc n = omega arith in
    rw (length-signs_of_number n b, number_of_signs_of n b, one, mod-pow-add b 1 n, ← same, mod-pow-add b 1 n) (binary_step (b / 2 ^ n % 2 ^ 1) (b % 2 ^ n) (2 ^ n) (mod_below (b / 2 ^ n) 2 (omega arith)) (mod_below b (2 ^ n) (pow_pos n)))

-- ---- turning the signs in a mask of k bits, n bits from the end

shifted-div : (b mask n : ℕ) → bit_xor b (mask * 2 ^ n) / 2 ^ n ≡ bit_xor (b / 2 ^ n) mask
shifted-div b mask n = rw (xor_shr b (mask * 2 ^ n) n, shl-shr mask n) refl

shifted-mod : (b mask n : ℕ) → bit_xor b (mask * 2 ^ n) % 2 ^ n ≡ b % 2 ^ n
shifted-mod b mask n = rw (xor_mod b (mask * 2 ^ n) n, mul-mod_left mask (2 ^ n), xor_zero_r (b % 2 ^ n)) refl

shifted-above : (b mask k n : ℕ) → mask < 2 ^ k → bit_xor b (mask * 2 ^ n) / 2 ^ (k + n) ≡ b / 2 ^ (k + n)
shifted-above b mask k n fits =
    rw (xor_shr b (mask * 2 ^ n) (k + n), div-eq_of_lt (shl_below mask k n fits), xor_zero_r (b / 2 ^ (k + n))) refl

pub signs_of_number-turned : (m k n b mask : ℕ) → mask < 2 ^ k →
    signs_of_number (m + (k + n)) (bit_xor b (mask * 2 ^ n)) ≡ signs_of_number m (b / 2 ^ (k + n)) ++ (signs_of_number k (bit_xor (b / 2 ^ n) mask) ++ signs_of_number n b)
signs_of_number-turned m k n b mask fits =
    let c : ℕ = bit_xor b (mask * 2 ^ n) in
    rw (
      signs_of_number-split m (k + n) (bit_xor b (mask * 2 ^ n)),
      signs_of_number-split k n (bit_xor b (mask * 2 ^ n)),
      shifted-above b mask k n fits,
      shifted-div b mask n,
      signs_of_number-mod n (bit_xor b (mask * 2 ^ n)) b (shifted-mod b mask n),
    ) refl

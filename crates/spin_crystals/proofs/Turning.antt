-- A replacement of signs is a turn of bits.
use Rattle.std.proofs.Common.{◌≡◌, refl, ◌∙◌, sym, ℕ, zero, suc, ◌+◌, ◌-◌, ◌*◌, ◌/◌, ◌%◌, ◌^◌, ◌<◌, ◌==◌, Bool, true, false, if◌then◌else◌, List, [], ◌∷◌, ◌++◌, length, Option, Some, None, arith}
use Rattle.std.specs.Prelude.{bit_and, bit_xor}
use Rattle.std.specs.Option.{option_map}
use Rattle.std.proofs.Math.Nat.{mod-eq_of_lt}
use Rattle.std.proofs.lemmas.Nat.{and_mask, xor_mod, mod_below, pow_pos}
use Rattle.std.proofs.lemmas.Bool.{agree_below, agree_below_at}
use Rattle.std.proofs.lemmas.Bool.Decides.{nat_tests}
use Rattle.spin_crystals.specs.Signs.{same_signs, signs_of_number}
use Rattle.spin_crystals.proofs.Replaced.{replaced, replaced-head}
use Rattle.spin_crystals.proofs.Bits.{length-signs_of_number, signs_of_number-split, signs_of_number-mod, signs_of_number-turned}

-- k bits are the signs `old` where they are `from`, and turned they are the signs `new`
pub record IsTurn (k : ℕ) (old new : List Bool) (mask from : ℕ) : Type 0 where
  pub fits : mask < 2 ^ k
  pub size : length old ≡ k
  pub tested : (c : ℕ) → same_signs old (signs_of_number k c) ≡ (bit_and c mask == from)
  pub turned : (c : ℕ) → bit_and c mask ≡ from → signs_of_number k (bit_xor c mask) ≡ new

-- it is enough to look at the numbers below 2 ^ k
pub turn_from_table : (k : ℕ) (old new : List Bool) (from : ℕ) → length old ≡ k → from < 2 ^ k →
    agree_below (λ d. same_signs old (signs_of_number k d)) (λ d. d == from) (2 ^ k) ≡ true →
    signs_of_number k (bit_xor from (2 ^ k - 1)) ≡ new →
    IsTurn k old new (2 ^ k - 1) from
turn_from_table k old new from size below table flipped = record {
  fits = omega (arith, pow_pos k);
  size = size;
  tested = λ c.
      let low : c % 2 ^ k < 2 ^ k = mod_below c (2 ^ k) (pow_pos k) in
      rw (and_mask c k, signs_of_number-mod k c (c % 2 ^ k) (sym (mod-eq_of_lt low))) (agree_below_at (λ d. same_signs old (signs_of_number k d)) (λ d. d == from) (2 ^ k) (c % 2 ^ k) table low);
  turned = λ c is.
      let read : c % 2 ^ k ≡ from = sym (and_mask c k) ∙ is in
      let same : bit_xor c (2 ^ k - 1) % 2 ^ k ≡ bit_xor from (2 ^ k - 1) % 2 ^ k =
      rw (xor_mod c (2 ^ k - 1) k, xor_mod from (2 ^ k - 1) k, read, mod-eq_of_lt below) refl in
      signs_of_number-mod k (bit_xor c (2 ^ k - 1)) (bit_xor from (2 ^ k - 1)) same ∙ flipped;
}

option_map-none_append : (o : Option (List Bool)) → option_map (λ y. [] ++ y) o ≡ o
option_map-none_append None = refl
option_map-none_append (Some y) = refl

option_map-cons_append : (s : Bool) (u : List Bool) (o : Option (List Bool)) → option_map (λ y. s ∷ y) (option_map (λ y. u ++ y) o) ≡ option_map (λ y. (s ∷ u) ++ y) o
option_map-cons_append s u None = refl
option_map-cons_append s u (Some y) = refl

pub replaced-append : (m : ℕ) (p q u w : List Bool) → length u ≡ m → replaced m p q (u ++ w) ≡ option_map (λ y. u ++ y) (replaced zero p q w)
replaced-append zero p q [] w size = sym (option_map-none_append (replaced zero p q w))
replaced-append zero p q (s ∷ u) w size = absurd (omega arith)
replaced-append (suc m) p q [] w size = absurd (omega arith)
replaced-append (suc m) p q (s ∷ u) w size =
    let rest : length u ≡ m = omega arith in
    rw (replaced-append m p q u w rest) (option_map-cons_append s u (replaced zero p q w))

-- the replacement of old by new, after m signs and before n, in the vector with the number b
pub replaced-bits : (k : ℕ) (old new : List Bool) (mask from : ℕ) → IsTurn k old new mask from → (m n r b : ℕ) → r ≡ m + (k + n) →
    replaced m old new (signs_of_number r b) ≡ option_map (signs_of_number r) (if bit_and (b / 2 ^ n) mask == from then Some (bit_xor b (mask * 2 ^ n)) else None)
replaced-bits k old new mask from turn m n r b size =
    let width : length (signs_of_number k (b / 2 ^ n)) ≡ length old = length-signs_of_number k (b / 2 ^ n) ∙ sym turn.size in
    rw (
      size,
      signs_of_number-split m (k + n) b,
      signs_of_number-split k n b,
      replaced-append m old new (signs_of_number m (b / 2 ^ (k + n))) (signs_of_number k (b / 2 ^ n) ++ signs_of_number n b) (length-signs_of_number m (b / 2 ^ (k + n))),
      replaced-head old new (signs_of_number k (b / 2 ^ n)) (signs_of_number n b) width,
      turn.tested (b / 2 ^ n),
    )
    (elim (bit_and (b / 2 ^ n) mask == from) as (λ t. (bit_and (b / 2 ^ n) mask == from) ≡ t →
    option_map (λ y. signs_of_number m (b / 2 ^ (k + n)) ++ y) (if t then Some (new ++ signs_of_number n b) else None) ≡
    option_map (signs_of_number (m + (k + n))) (if t then Some (bit_xor b (mask * 2 ^ n)) else None)) [
      | true ↦ λ is.
          let read : bit_and (b / 2 ^ n) mask ≡ from = grind (arith, nat_tests) in
          rw (signs_of_number-turned m k n b mask turn.fits, turn.turned (b / 2 ^ n) read) refl
      | false ↦ λ is. refl
    ] refl)

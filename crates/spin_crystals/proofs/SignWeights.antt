-- Weights of vectors of signs, coordinate by coordinate.
use Rattle.std.proofs.Common.{◌≡◌, refl, ◌∙◌, sym, ap, ℕ, zero, suc, ◌+◌, ◌-◌, ◌/◌, ◌%◌, ◌^◌, ◌≤◌, ◌<◌, ◌==◌, nat_le, Bool, true, false, IsTrue, if◌then◌else◌, List, slice_index_or, bit_and, All, pos, negsuc, arith, one-mul}
use Rattle.std.specs.List.{range_with_len}
use Rattle.std.proofs.lemmas.Nat.{pow_pos, field_of, and_mask}
use Rattle.std.proofs.lemmas.Int.{ints}
use Rattle.std.proofs.lemmas.Bool.Decides.{nat_tests}
use Rattle.std.proofs.lemmas.List.Elements.{All-map}
use Rattle.crystal_cartan.specs.Types.{CartanType, coordinates, coordinates_of}
use Rattle.crystal_cartan.specs.declared.types.Kind.{Kind}
use Rattle.crystal_cartan.specs.declared.types.Kind.TheVariants.{A, B, C, D}
use Rattle.crystal_cartan.specs.Weights.{IsWithin}
use Rattle.spin_crystals.specs.Signs.{plus, signs_of_number, HasSpin, has_spin}
use Rattle.spin_crystals.specs.SpinCrystals.{signs_weight, sign_coordinate}
use Rattle.spin_crystals.proofs.Bits.{nat_le-div}

-- a weight has as many coordinates as the vector has signs
pub spin_coordinates : (t : CartanType) → HasSpin t → coordinates t ≡ t.rank
spin_coordinates t spin = at t.kind spin
  where
    at : (k : Kind) → IsTrue (has_spin k) → coordinates_of k t.rank ≡ t.rank
    at A spin = cc
    at B spin = refl
    at C spin = refl
    at D spin = refl

-- the sign at the place k is a bit
pub sign_bit : (n b k : ℕ) → k < n → slice_index_or (signs_of_number n b) k plus ≡ (bit_and (b / 2 ^ (n - 1 - k)) 1 == 1)
sign_bit zero b k below = absurd (omega arith)
sign_bit (suc n) b zero below =
    let size : suc n - 1 - 0 ≡ n = omega arith in
    let order : n + 1 ≡ 1 + n = omega arith in
    let test : nat_le (2 ^ n) (b % 2 ^ (n + 1)) ≡ nat_le 1 (b % 2 ^ (n + 1) / 2 ^ n) = ap (λ p. nat_le p (b % 2 ^ (n + 1))) (sym (one-mul (2 ^ n))) ∙ nat_le-div 1 (2 ^ n) (b % 2 ^ (n + 1)) (pow_pos n) in
    rw (size, test, order, field_of b 1 n, and_mask (b / 2 ^ n) 1) (binary (b / 2 ^ n))
  where
    binary : (q : ℕ) → nat_le 1 (q % 2 ^ 1) ≡ (q % 2 ^ 1 == 1)
    binary q = grind (arith, nat_tests)
sign_bit (suc n) b (suc k) below =
    let size : suc n - 1 - suc k ≡ n - 1 - k = omega arith in
    rw size (sign_bit n b k (omega arith))

sign_test : (n b j : ℕ) → 1 ≤ j → j ≤ n → slice_index_or (signs_of_number n b) (j - 1) plus ≡ (bit_and (b / 2 ^ (n - j)) 1 == 1)
sign_test n b j low high =
    let place : n - 1 - (j - 1) ≡ n - j = omega arith in
    rw (sign_bit n b (j - 1) (omega arith), place) refl

pub minus_coordinate : (n b j : ℕ) → 1 ≤ j → j ≤ n → bit_and (b / 2 ^ (n - j)) 1 ≡ 1 → negsuc 0 ≡ sign_coordinate (signs_of_number n b) j
minus_coordinate n b j low high set =
    let test : (bit_and (b / 2 ^ (n - j)) 1 == 1) ≡ true = grind (arith, nat_tests) in
    rw (sign_test n b j low high, test) refl

pub plus_coordinate : (n b j : ℕ) → 1 ≤ j → j ≤ n → (bit_and (b / 2 ^ (n - j)) 1 ≡ 1 → ⊥) → pos 1 ≡ sign_coordinate (signs_of_number n b) j
plus_coordinate n b j low high clear =
    let test : (bit_and (b / 2 ^ (n - j)) 1 == 1) ≡ false = grind (arith, nat_tests) in
    rw (sign_test n b j low high, test) refl

-- every coordinate is half a unit either way
half_unit : (s : Bool) → IsWithin 1 (if s then negsuc 0 else pos 1)
half_unit true = (omega (arith, ints), omega (arith, ints))
half_unit false = (omega (arith, ints), omega (arith, ints))

pub signs_weight-small : (t : CartanType) (v : List Bool) → All (IsWithin 1) (signs_weight t v)
unfolding signs_weight
signs_weight-small t v =
    All-map (IsWithin 1) (sign_coordinate v) (range_with_len 1 t.rank)
    (λ i d below. half_unit (slice_index_or v (slice_index_or (range_with_len 1 t.rank) i d - 1) plus))

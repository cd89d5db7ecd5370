-- Digits of vectors of signs.
use Rattle.std.proofs.Common.{◌≡◌, refl, ◌∙◌, sym, ap, ℕ, zero, suc, ◌+◌, ◌-◌, ◌*◌, ◌/◌, ◌%◌, ◌^◌, ◌≤◌, ◌<◌, ◌==◌, nat_le, Bool, true, false, not, IsTrue, if◌then◌else◌, List, [], ◌∷◌, ◌++◌, length, take, arith, length-append, zero-add, inl, inr, ◌⊎◌}
use mir.Val.{bool_byte}
use Rattle.std.specs.Prelude.{count_ones}
use Rattle.std.specs.Int.Count.{ones}
use Rattle.std.proofs.Math.Nat.{mod-one, mod-eq_of_lt}
use Rattle.std.proofs.Math.Seq.{take-append_seam}
use Rattle.std.proofs.lemmas.Nat.{pow_pos, mod-pow-add, mod_below, ones_cat, shr_below}
use Rattle.std.proofs.lemmas.Bool.Decides.{nat_tests}
use Rattle.crystal_cartan.specs.Types.{CartanType, IsCartan}
use Rattle.spin_crystals.specs.declared.signs.Signs.{Signs}
use Rattle.spin_crystals.specs.declared.signs.Half.{Half}
use Rattle.spin_crystals.specs.declared.signs.Half.TheVariants.{Whole, Plus, Minus}
use Rattle.spin_crystals.specs.Signs.{signs_of_number, number_of_signs, has_odd_minuses, is_of_half, half_size, signs_digit, signs_at, IsSigns, vector_of}
use Rattle.spin_crystals.proofs.Bits.{length-signs_of_number, signs_of_number-split, signs_of_number-mod, number_of_signs_of}
use Rattle.spin_crystals.proofs.Halves.{has_odd_minuses-append}
use Rattle.crystal_cartan.proofs.Ranks.{rank_positive}

ones_zero : count_ones 0 ≡ 0
unfolding ones
ones_zero = refl

ones_one : count_ones 1 ≡ 1
unfolding ones
ones_one = refl

odd_next : (k : ℕ) → not (k % 2 == 1) ≡ ((1 + k) % 2 == 1)
odd_next k = grind (arith, nat_tests)

-- the number of ones tells the parity
parity_step : (q s p k : ℕ) → q < 2 → s < p → (if nat_le p (q * p + s) then not (k % 2 == 1) else (k % 2 == 1)) ≡ ((count_ones q + k) % 2 == 1)
parity_step zero s p k low below =
    let test : nat_le p (0 * p + s) ≡ false = grind (arith, nat_tests) in
    rw (test, ones_zero, zero-add k) refl
parity_step (suc zero) s p k low below =
    let test : nat_le p (1 * p + s) ≡ true = grind (arith, nat_tests) in
    rw (test, ones_one) (odd_next k)
parity_step (suc (suc q)) s p k low below = absurd (omega arith)

pub odd_ones : (n b : ℕ) → has_odd_minuses (signs_of_number n b) ≡ (count_ones (b % 2 ^ n) % 2 == 1)
odd_ones zero b = rw (mod-one b, ones_zero) refl
odd_ones (suc n) b =
    let one : n + 1 ≡ 1 + n = omega arith in
    let same : 1 + n ≡ suc n = omega arith in
    rw (odd_ones n b, one, ← same, mod-pow-add b 1 n, ones_cat n (b / 2 ^ n % 2 ^ 1) (b % 2 ^ n) (mod_below b (2 ^ n) (pow_pos n)))
    (parity_step (b / 2 ^ n % 2 ^ 1) (b % 2 ^ n) (2 ^ n) (count_ones (b % 2 ^ n)) (mod_below (b / 2 ^ n) 2 (omega arith)) (mod_below b (2 ^ n) (pow_pos n)))

-- all signs but the last, and the last
pub signs_of_number-last : (r b : ℕ) → 1 ≤ r → signs_of_number r b ≡ signs_of_number (r - 1) (b / 2) ++ nat_le 1 (b % 2) ∷ []
signs_of_number-last r b low =
    let size : r ≡ (r - 1) + 1 = omega arith in
    ap (λ n. signs_of_number n b) size ∙ signs_of_number-split (r - 1) 1 b

pub take-last : (u : List Bool) (s : Bool) → take (length (u ++ s ∷ []) - 1) (u ++ s ∷ []) ≡ u
take-last u s =
    let size : length (u ++ s ∷ []) - 1 ≡ length u = simp length-append (omega arith) in
    rw (size, take-append_seam u (s ∷ [])) refl

-- ---- the sign that the parity asks for

abbrev with_sign : Bool → Bool → Bool
with_sign a s = if a then not (if s then true else false) else (if s then true else false)

even_sign : (a s : Bool) → not (with_sign a s) ≡ true → a ≡ s
even_sign false false even = refl
even_sign false true even = cc
even_sign true false even = cc
even_sign true true even = refl

odd_sign : (a s : Bool) → with_sign a s ≡ true → not a ≡ s
odd_sign false false odd = cc
odd_sign false true odd = refl
odd_sign true false odd = refl
odd_sign true true odd = cc

even_made : (u : List Bool) → not (has_odd_minuses (u ++ has_odd_minuses u ∷ [])) ≡ true
even_made u = ap not (has_odd_minuses-append u (has_odd_minuses u ∷ [])) ∙ made (has_odd_minuses u)
  where
    made : (a : Bool) → not (with_sign a a) ≡ true
    made false = refl
    made true = refl

odd_made : (u : List Bool) → has_odd_minuses (u ++ not (has_odd_minuses u) ∷ []) ≡ true
odd_made u = has_odd_minuses-append u (not (has_odd_minuses u) ∷ []) ∙ made (has_odd_minuses u)
  where
    made : (a : Bool) → with_sign a (not a) ≡ true
    made false = refl
    made true = refl

-- ---- the digit of the vector with the number b

half_below : (r b : ℕ) → 1 ≤ r → b < 2 ^ r → b / 2 < 2 ^ (r - 1)
half_below r b low below =
    let size : r ≡ (r - 1) + 1 = omega arith in
    shr_below b (r - 1) 1 (rw (← size) below)

half_digit : (r b : ℕ) → 1 ≤ r → b < 2 ^ r → number_of_signs (take (length (signs_of_number r b) - 1) (signs_of_number r b)) ≡ b / 2
half_digit r b low below =
    rw (signs_of_number-last r b low, take-last, number_of_signs_of (r - 1) (b / 2)) (mod-eq_of_lt (half_below r b low below))

-- the digit as the code has it
abbrev pub digit_of_bits : Half → ℕ → ℕ
digit_of_bits Whole b = b
digit_of_bits Plus b = b / 2
digit_of_bits Minus b = b / 2

pub signs_digit-bits : (half : Half) (r b : ℕ) → 1 ≤ r → b < 2 ^ r → signs_digit half (signs_of_number r b) ≡ digit_of_bits half b
signs_digit-bits Whole r b low below = number_of_signs_of r b ∙ mod-eq_of_lt below
signs_digit-bits Plus r b low below = half_digit r b low below
signs_digit-bits Minus r b low below = half_digit r b low below

pub digit_of_bits-below : (half : Half) (r b : ℕ) → 1 ≤ r → b < 2 ^ r → digit_of_bits half b < half_size half r
digit_of_bits-below Whole r b low below = below
digit_of_bits-below Plus r b low below = half_below r b low below
digit_of_bits-below Minus r b low below = half_below r b low below

pub digit_of_bits-back : (half : Half) (r b : ℕ) → 1 ≤ r → IsTrue (is_of_half half (signs_of_number r b)) → signs_at half r (digit_of_bits half b) ≡ signs_of_number r b
digit_of_bits-back Whole r b low parity = refl
digit_of_bits-back Plus r b low parity =
    let u : List Bool = signs_of_number (r - 1) (b / 2) in
    let whole : signs_of_number r b ≡ u ++ nat_le 1 (b % 2) ∷ [] = signs_of_number-last r b low in
    let even : not (has_odd_minuses (u ++ nat_le 1 (b % 2) ∷ [])) ≡ true = ap (λ v. not (has_odd_minuses v)) (sym whole) ∙ parity in
    let last : has_odd_minuses u ≡ nat_le 1 (b % 2) = even_sign (has_odd_minuses u) (nat_le 1 (b % 2)) (sym (ap not (has_odd_minuses-append u (nat_le 1 (b % 2) ∷ []))) ∙ even) in
    ap (λ s. u ++ s ∷ []) last ∙ sym whole
digit_of_bits-back Minus r b low parity =
    let u : List Bool = signs_of_number (r - 1) (b / 2) in
    let whole : signs_of_number r b ≡ u ++ nat_le 1 (b % 2) ∷ [] = signs_of_number-last r b low in
    let odd : has_odd_minuses (u ++ nat_le 1 (b % 2) ∷ []) ≡ true = ap has_odd_minuses (sym whole) ∙ parity in
    let last : not (has_odd_minuses u) ≡ nat_le 1 (b % 2) = odd_sign (has_odd_minuses u) (nat_le 1 (b % 2)) (sym (has_odd_minuses-append u (nat_le 1 (b % 2) ∷ [])) ∙ odd) in
    ap (λ s. u ++ s ∷ []) last ∙ sym whole

-- ---- the vector with a digit

pub signs_at-half : (half : Half) (r d : ℕ) → IsTrue (is_of_half half (signs_at half r d))
signs_at-half Whole r d = refl
signs_at-half Plus r d = even_made (signs_of_number (r - 1) d)
signs_at-half Minus r d = odd_made (signs_of_number (r - 1) d)

pub length-signs_at : (half : Half) (r d : ℕ) → 1 ≤ r → length (signs_at half r d) ≡ r
length-signs_at Whole r d low = length-signs_of_number r d
length-signs_at Plus r d low = simp (length-append, length-signs_of_number) (omega arith)
length-signs_at Minus r d low = simp (length-append, length-signs_of_number) (omega arith)

pub signs_digit-at : (half : Half) (r d : ℕ) → d < half_size half r → signs_digit half (signs_at half r d) ≡ d
signs_digit-at Whole r d below = number_of_signs_of r d ∙ mod-eq_of_lt below
signs_digit-at Plus r d below = rw (take-last, number_of_signs_of (r - 1) d) (mod-eq_of_lt below)
signs_digit-at Minus r d below = rw (take-last, number_of_signs_of (r - 1) d) (mod-eq_of_lt below)

-- a number with one more sign at its end
pub signs_of_number-more : (r d : ℕ) (s : Bool) → 1 ≤ r → signs_of_number r (d * 2 + bool_byte s) ≡ signs_of_number (r - 1) d ++ s ∷ []
signs_of_number-more r d false low =
    let quotient : (d * 2 + 0) / 2 ≡ d = omega arith in
    let rest : (d * 2 + 0) % 2 ≡ 0 = omega arith in
    signs_of_number-last r (d * 2 + 0) low ∙ rw (quotient, rest) refl
signs_of_number-more r d true low =
    let quotient : (d * 2 + 1) / 2 ≡ d = omega arith in
    let rest : (d * 2 + 1) % 2 ≡ 1 = omega arith in
    signs_of_number-last r (d * 2 + 1) low ∙ rw (quotient, rest) refl

-- ---- what the code has

pub whole_bits : (half : Half) (bits b : ℕ) → half ≡ Whole → bits ≡ b → bits ≡ digit_of_bits half b
whole_bits half bits b is same = rw is same

pub half_bits : (half : Half) (bits b : ℕ) → (half ≡ Plus) ⊎ (half ≡ Minus) → bits ≡ b / 2 → bits ≡ digit_of_bits half b
half_bits half bits b is same = elim is [ inl plus_is ↦ rw plus_is same | inr minus_is ↦ rw minus_is same ]

element_below : (t : CartanType) (x : Signs) → IsSigns t x → x.bits < 2 ^ x.size
element_below t x element = rw element.size element.below

element_low : (t : CartanType) (x : Signs) → IsCartan t → IsSigns t x → 1 ≤ x.size
element_low t x classical element = rw element.size (rank_positive t classical)

pub digit_value : (t : CartanType) (x : Signs) (half : Half) (bits : ℕ) → IsCartan t → IsSigns t x → bits ≡ digit_of_bits half x.bits → bits ≡ signs_digit half (vector_of x)
digit_value t x half bits classical element same =
    same ∙ sym (signs_digit-bits half x.size x.bits (element_low t x classical element) (element_below t x element))

pub digit_back : (t : CartanType) (x : Signs) (half : Half) (bits : ℕ) → IsCartan t → IsSigns t x → IsTrue (is_of_half half (vector_of x)) →
    bits ≡ digit_of_bits half x.bits → signs_at half t.rank bits ≡ vector_of x
digit_back t x half bits classical element parity same =
    rw (same, ← element.size) (digit_of_bits-back half x.size x.bits (element_low t x classical element) parity)

pub odd_of_low_bits : (size b bits : ℕ) (odd : Bool) → bits ≡ b % 2 ^ size → ((n : ℕ) → bits < 2 ^ n → has_odd_minuses (signs_of_number n bits) ≡ odd) →
    odd ≡ has_odd_minuses (signs_of_number size b)
odd_of_low_bits size b bits odd same known =
    let below : bits < 2 ^ size = rw same (mod_below b (2 ^ size) (pow_pos size)) in
    let alike : bits % 2 ^ size ≡ b % 2 ^ size = mod-eq_of_lt below ∙ same in
    sym (known size below) ∙ ap has_odd_minuses (signs_of_number-mod size bits b alike)

-- Letters by their digits.
use Rattle.std.proofs.Common.{subst, ◌≡◌, ℕ, zero, suc, ◌+◌, ◌-◌, ◌/◌, ◌≤◌, ◌<◌, Bool, true, false, ◌&&◌, ◌||◌, ◌==◌, nat_lt, nat_le, not, inl, inr, ◌⊎◌, if◌then◌else◌, slice_index_or, ℤ, pos, negsuc, neg_ℤ, ◌<ℤ◌, unsigned_abs, arith, refl, sym, ap, ◌∙◌, int_eq, IsTrue, ◌↔◌}
use Rattle.std.specs.List.{position_or_len}
use Rattle.std.specs.Int.Signed.{lt_z}
use Rattle.std.proofs.lemmas.Bool.{eqb-true, ltb-true}
use Rattle.std.proofs.lemmas.Bool.Decides.{nat_tests}
use Rattle.std.proofs.lemmas.Int.{ints}
use Rattle.list_facts.proofs.Truth.{first_true, second_true}
use Rattle.crystal_cartan.specs.Types.{CartanType, IsCartan, coordinates, coordinates_of}
use Rattle.crystal_cartan.specs.declared.types.Kind.{Kind}
use Rattle.crystal_cartan.specs.declared.types.Kind.TheVariants.{A, B, C, D}
use Rattle.vector_crystals.specs.Letters.{letters, letters_of, IsLetter, letter_count, letter_count_of, letter_at, letter_digit}
use Rattle.vector_crystals.proofs.Tables.{has, has-contains, all_below, below_at, all_ranks, ranks_at, all_letters, letters_at, int_eq-true}
use Rattle.crystal_cartan.proofs.Coordinates.{coordinates_few}

-- the letter with a digit
abbrev at_digit : Kind → ℕ → ℕ → ℤ
at_digit k r d =
    if nat_lt d (coordinates_of k r) then pos (d + 1) else if nat_lt (coordinates_of k r) (letter_count_of k r - d) then pos 0 else neg_ℤ (pos (letter_count_of k r - d))

abbrev at_cell : Kind → ℕ → ℕ → Bool
at_cell k r d =
    int_eq (slice_index_or (letters_of k r) d (pos 0)) (at_digit k r d)
    && has (letters_of k r) (slice_index_or (letters_of k r) d (pos 0))
    && (position_or_len (λ y. int_eq y (slice_index_or (letters_of k r) d (pos 0))) (letters_of k r) == d)

at_rows : (k : Kind) → all_ranks (λ k r. all_below (letter_count_of k r) (at_cell k r)) k ≡ true
at_rows A = refl
at_rows B = refl
at_rows C = refl
at_rows D = refl

at_row : (t : CartanType) (d : ℕ) → IsCartan t → d < letter_count t → at_cell t.kind t.rank d ≡ true
at_row t d c low = below_at (letter_count t) (at_cell t.kind t.rank) (ranks_at (λ k r. all_below (letter_count_of k r) (at_cell k r)) at_rows t c) d low

pub letter_at-letter : (t : CartanType) (d : ℕ) → IsCartan t → d < letter_count t → IsLetter t (letter_at t d)
unfolding letters
letter_at-letter t d c low = has-contains (letters_of t.kind t.rank) _ (second_true _ _ (first_true _ _ (at_row t d c low)))

pub letter_digit-letter_at : (t : CartanType) (d : ℕ) → IsCartan t → d < letter_count t → letter_digit t (letter_at t d) ≡ d
unfolding letters
letter_digit-letter_at t d c low = eqb-true _ _ (second_true _ _ (at_row t d c low))

letter_at-rule : (t : CartanType) (d : ℕ) → IsCartan t → d < letter_count t → letter_at t d ≡ at_digit t.kind t.rank d
unfolding letters
letter_at-rule t d c low = int_eq-true _ _ (first_true _ _ (first_true _ _ (at_row t d c low)))

pub letter_at-unbarred : (t : CartanType) (d : ℕ) → IsCartan t → d < letter_count t → d < coordinates t → letter_at t d ≡ pos (d + 1)
letter_at-unbarred t d c low first = letter_at-rule t d c low ∙ grind (arith, nat_tests)

pub letter_at-barred : (t : CartanType) (d : ℕ) → IsCartan t → d < letter_count t → coordinates t ≤ d → letter_count t - d ≤ coordinates t
    → letter_at t d ≡ neg_ℤ (pos (letter_count t - d))
letter_at-barred t d c low later last = letter_at-rule t d c low ∙ grind (arith, nat_tests)

pub letter_at-zero : (t : CartanType) (d : ℕ) → IsCartan t → d < letter_count t → coordinates t ≤ d → coordinates t < letter_count t - d → letter_at t d ≡ pos 0
letter_at-zero t d c low later middle = letter_at-rule t d c low ∙ grind (arith, nat_tests)

-- whether a letter of the kind may be this number, as for its sign
abbrev pub is_signed : Kind → ℤ → Bool
is_signed A x = lt_z (pos 0) x
is_signed B x = true
is_signed C x = not (int_eq x (pos 0))
is_signed D x = not (int_eq x (pos 0))

abbrev pub is_there : Kind → ℕ → ℤ → Bool
is_there k r x = is_signed k x && nat_lt (unsigned_abs x) (coordinates_of k r + 1)

-- the test passes where the number is a letter
abbrev pub there_cell : Kind → ℕ → ℕ → Bool
there_cell k r n =
    (not (is_there k r (pos n)) || has (letters_of k r) (pos n)) && (not (is_there k r (negsuc n)) || has (letters_of k r) (negsuc n))

there_rows : (k : Kind) → all_ranks (λ k r. all_below 10 (there_cell k r)) k ≡ true
there_rows A = refl
there_rows B = refl
there_rows C = refl
there_rows D = refl

-- the digit of a letter
abbrev digit_of : Kind → ℕ → ℤ → ℕ
digit_of k r (pos zero) = letter_count_of k r / 2
digit_of k r (pos (suc n)) = n
digit_of k r (negsuc n) = letter_count_of k r - (n + 1)

abbrev digit_cell : Kind → ℕ → ℤ → Bool
digit_cell k r x =
    (position_or_len (λ y. int_eq y x) (letters_of k r) == digit_of k r x)
    && nat_lt (digit_of k r x) (letter_count_of k r)
    && int_eq (slice_index_or (letters_of k r) (digit_of k r x) (pos 0)) x
    && is_there k r x

digit_rows : (k : Kind) → all_letters digit_cell k ≡ true
digit_rows A = refl
digit_rows B = refl
digit_rows C = refl
digit_rows D = refl

implied : (a b : Bool) → (not a || b) ≡ true → a ≡ true → b ≡ true
implied true b h is = h
implied false b h is = cc

letter_from_test : (t : CartanType) (x : ℤ) → IsCartan t → is_there t.kind t.rank x ≡ true → IsLetter t x
unfolding letters
letter_from_test t (pos n) c h =
    let low : n < coordinates t + 1 = ltb-true n (coordinates t + 1) (second_true (is_signed t.kind (pos n)) (nat_lt n (coordinates t + 1)) h) in
    let row : there_cell t.kind t.rank n ≡ true = below_at 10 (there_cell t.kind t.rank) (ranks_at (λ k r. all_below 10 (there_cell k r)) there_rows t c) n (omega (arith, coordinates_few t c)) in
    has-contains (letters_of t.kind t.rank) (pos n) (implied (is_there t.kind t.rank (pos n)) (has (letters_of t.kind t.rank) (pos n)) (first_true _ _ row) h)
letter_from_test t (negsuc n) c h =
    let low : unsigned_abs (negsuc n) < coordinates t + 1 = ltb-true (unsigned_abs (negsuc n)) (coordinates t + 1) (second_true (is_signed t.kind (negsuc n)) (nat_lt (unsigned_abs (negsuc n)) (coordinates t + 1)) h) in
    let row : there_cell t.kind t.rank n ≡ true = below_at 10 (there_cell t.kind t.rank) (ranks_at (λ k r. all_below 10 (there_cell k r)) there_rows t c) n (omega (arith, coordinates_few t c)) in
    has-contains (letters_of t.kind t.rank) (negsuc n) (implied (is_there t.kind t.rank (negsuc n)) (has (letters_of t.kind t.rank) (negsuc n)) (second_true _ _ row) h)

pub test_from_letter : (t : CartanType) (x : ℤ) → IsCartan t → IsLetter t x → is_there t.kind t.rank x ≡ true
test_from_letter t x c there = second_true _ _ (letters_at digit_cell digit_rows t x c there)

pub is_letter-iff : (t : CartanType) (k : Kind) (x : ℤ) (result : Bool) → IsCartan t → k ≡ t.kind
    → result ≡ (is_signed k x && nat_lt (unsigned_abs x) (coordinates t + 1)) → IsTrue result ↔ IsLetter t x
is_letter-iff t k x result c same is =
    let whole : result ≡ is_there t.kind t.rank x = is ∙ ap (λ (j : Kind). is_signed j x && nat_lt (unsigned_abs x) (coordinates t + 1)) same in
    (λ h. letter_from_test t x c (sym whole ∙ h), λ there. whole ∙ test_from_letter t x c there)

pub is_letter-iff_nonzero : (t : CartanType) (k : Kind) (x : ℤ) (result : Bool) → IsCartan t → k ≡ t.kind → (k ≡ C) ⊎ (k ≡ D)
    → result ≡ (not (int_eq x (pos 0)) && nat_lt (unsigned_abs x) (coordinates t + 1)) → IsTrue result ↔ IsLetter t x
is_letter-iff_nonzero t k x result c same either is =
    elim either [
      | inl at ↦ is_letter-iff t C x result c (sym at ∙ same) is
      | inr at ↦ is_letter-iff t D x result c (sym at ∙ same) is
    ]

pub height_test : (height unbarred m n : ℕ) → height ≡ m → unbarred ≡ n → nat_le height unbarred ≡ nat_lt m (n + 1)
height_test height unbarred m n same rank_is = grind (arith, nat_tests)

pub nonzero_test : (x : ℤ) → (x ≡ pos 0 → ⊥) → int_eq x (pos 0) ≡ false
nonzero_test x h = false_from_not (int_eq x (pos 0)) (λ is. h (int_eq-true x (pos 0) is))
  where
    false_from_not : (b : Bool) → (b ≡ true → ⊥) → b ≡ false
    false_from_not true fails = absurd (fails refl)
    false_from_not false fails = refl

pub height-unbarred : (t : CartanType) (x : ℤ) → IsCartan t → IsLetter t x → unsigned_abs x ≤ coordinates t
height-unbarred t x c there =
    let low : unsigned_abs x < coordinates t + 1 =
    ltb-true (unsigned_abs x) (coordinates t + 1) (second_true (is_signed t.kind x) (nat_lt (unsigned_abs x) (coordinates t + 1)) (test_from_letter t x c there)) in
    omega arith

pub height-fits : (t : CartanType) (x : ℤ) → IsCartan t → IsLetter t x → unsigned_abs x ≤ letter_count t
height-fits t x c there = omega (arith, height-unbarred t x c there, unbarred_few t.kind t.rank)
  where
    unbarred_few : (k : Kind) (r : ℕ) → coordinates_of k r ≤ letter_count_of k r
    unbarred_few A r = omega arith
    unbarred_few B r = omega arith
    unbarred_few C r = omega arith
    unbarred_few D r = omega arith

-- d is the digit of x in each of the three ways that say so
abbrev pub IsDigit : CartanType → ℤ → ℕ → Type 0
IsDigit t x d = (d ≡ letter_digit t x) × (d < letter_count t) × (letter_at t d ≡ x)

is_digit : (t : CartanType) (x : ℤ) (d : ℕ) → IsCartan t → IsLetter t x → d ≡ digit_of t.kind t.rank x → IsDigit t x d
unfolding letters
is_digit t x d c there is =
    let row = letters_at digit_cell digit_rows t x c there in
    let first = first_true _ _ row in
    let second = first_true _ _ first in
    rw is (sym (eqb-true _ _ (first_true _ _ second)), ltb-true _ _ (second_true _ _ second), int_eq-true _ _ (second_true _ _ first))

pub letter_digit-below : (t : CartanType) (x : ℤ) → IsCartan t → IsLetter t x → letter_digit t x < letter_count t
letter_digit-below t x c there =
    let digit = is_digit t x (digit_of t.kind t.rank x) c there refl in
    subst (λ (d : ℕ). d < letter_count t) digit.0 digit.1

pub letter_at-letter_digit : (t : CartanType) (x : ℤ) → IsCartan t → IsLetter t x → letter_at t (letter_digit t x) ≡ x
letter_at-letter_digit t x c there =
    let digit = is_digit t x (digit_of t.kind t.rank x) c there refl in
    ap (letter_at t) (sym digit.0) ∙ digit.2

pub digit-unbarred : (t : CartanType) (x : ℤ) (d : ℕ) → IsCartan t → IsLetter t x → pos 0 <ℤ x → d ≡ unsigned_abs x - 1 → IsDigit t x d
digit-unbarred t (pos zero) d c there sign is = absurd (omega (arith, ints))
digit-unbarred t (pos (suc n)) d c there sign is = is_digit t (pos (suc n)) d c there (omega arith)
digit-unbarred t (negsuc n) d c there sign is = absurd (omega (arith, ints))

pub digit-barred : (t : CartanType) (x : ℤ) (d : ℕ) → IsCartan t → IsLetter t x → x <ℤ pos 0 → d ≡ letter_count t - unsigned_abs x → IsDigit t x d
digit-barred t (pos n) d c there sign is = absurd (omega (arith, ints))
digit-barred t (negsuc n) d c there sign is = is_digit t (negsuc n) d c there (omega arith)

pub digit-zero : (t : CartanType) (x : ℤ) (d : ℕ) → IsCartan t → IsLetter t x → x ≡ pos 0 → d ≡ letter_count t / 2 → IsDigit t x d
digit-zero t x d c there zero_is is = is_digit t x d c there (rw zero_is is)

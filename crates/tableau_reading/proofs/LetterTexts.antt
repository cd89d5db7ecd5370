-- Texts of letters: what is printed is read.
use Rattle.std.proofs.Common.{◌≡◌, refl, ap, ℕ, suc, ◌+◌, ◌*◌, ◌^◌, ◌≤◌, ◌<◌, ◌==◌, nat_le, nat_lt, Bool, true, ◌&&◌, List, [], ◌∷◌, length, get_or, ℤ, pos, negsuc, Option, Some, None, option_and_then, arith, int_eq}
use Rattle.std.specs.Prelude.{nat_eq, position}
use Rattle.std.specs.Option.{option_eq}
use Rattle.std.specs.Fmt.{signed_decimal}
use Rattle.std.proofs.lemmas.Bool.{and_parts}
use Rattle.std.proofs.lemmas.Bool.Decides.{nat_tests, Decides-int_eq}
use Rattle.std.proofs.lemmas.Fmt.{decimal_digit}
use Rattle.std.proofs.lemmas.List.Quantifiers.{position-Some}
use Rattle.crystal_cartan.specs.Types.{CartanType, IsCartan}
use Rattle.crystal_cartan.specs.declared.types.Kind.{Kind}
use Rattle.crystal_cartan.specs.declared.types.Kind.TheVariants.{A, B, C, D}
use Rattle.vector_crystals.specs.Letters.{letters, letters_of, IsLetter, letter_count, letter_count_of, letter_at, letter_digit}
use Rattle.vector_crystals.proofs.Tables.{all_below, below_at, all_ranks, ranks_at}
use Rattle.text_pieces.specs.Pieces.{is_word}
use Rattle.tableau_reading.specs.Tokens.{letter_value, digit_if_letter}

-- ---- the digit of a letter

count_rows : (k : Kind) → all_ranks (λ k r. length (letters_of k r) == letter_count_of k r) k ≡ true
count_rows A = refl
count_rows B = refl
count_rows C = refl
count_rows D = refl

pub length-letters : (t : CartanType) → IsCartan t → length (letters t) ≡ letter_count t
unfolding letters
length-letters t c =
    let row : (length (letters_of t.kind t.rank) == letter_count t) ≡ true = ranks_at (λ k r. length (letters_of k r) == letter_count_of k r) count_rows t c in
    grind (arith, nat_tests)

pub letter_known : (t : CartanType) (x : ℤ) (d : ℕ) → IsCartan t → d ≡ letter_digit t x → d < letter_count t → Some d ≡ digit_if_letter t x
letter_known t x d c is below =
    let size : length (letters t) ≡ letter_count t = length-letters t c in
    let test : nat_lt (letter_digit t x) (length (letters t)) ≡ true = grind (arith, nat_tests) in
    rw test (ap Some is)

pub letter_unknown : (t : CartanType) (x : ℤ) → (IsLetter t x → ⊥) → None ≡ digit_if_letter t x
letter_unknown t x none = by_place (digit_if_letter t x) refl
  where
    by_place : (r : Option ℕ) → digit_if_letter t x ≡ r → None ≡ r
    by_place None is = refl
    by_place (Some k) is =
        let found = position-Some (λ y. int_eq y x) (letters t) k x is in
        absurd (none (k, found.0, (Decides-int_eq (get_or (letters t) k x) x).0 found.1))

-- ---- letters have one decimal digit

-- the text of a number of one digit
abbrev pub short_text : ℤ → List ℕ
short_text (pos n) = (48 + n) ∷ []
short_text (negsuc n) = 45 ∷ (48 + suc n) ∷ []

abbrev pub is_short : ℤ → Bool
is_short (pos n) = nat_lt n 10
is_short (negsuc n) = nat_lt (suc n) 10

pub short_decimal : (x : ℤ) → is_short x ≡ true → signed_decimal x ≡ short_text x
short_decimal (pos n) h = let small : n < 10 = grind (arith, nat_tests) in decimal_digit n small
short_decimal (negsuc n) h = let small : suc n < 10 = grind (arith, nat_tests) in ap (λ bytes. 45 ∷ bytes) (decimal_digit (suc n) small)

-- what a table says of a letter, by its digit: it has one decimal digit, its text is a word that is read as the digit,
-- and 2 to the number of bytes with a blank is at most the square of the number of letters
abbrev text_cell : Kind → ℕ → ℕ → Bool
text_cell k r d =
    let x : ℤ = get_or (letters_of k r) d (pos 0) in
    is_short x
    && option_eq nat_eq (option_and_then (λ y. position (λ z. int_eq z y) (letters_of k r)) (letter_value (short_text x))) (Some d)
    && is_word (short_text x)
    && nat_le (2 ^ (1 + length (short_text x))) (letter_count_of k r * letter_count_of k r)

text_rows : (k : Kind) → all_ranks (λ k r. all_below (letter_count_of k r) (text_cell k r)) k ≡ true
text_rows A = refl
text_rows B = refl
text_rows C = refl
text_rows D = refl

-- the same as facts
pub record IsLetterText (t : CartanType) (d : ℕ) : Type 0 where
  pub text : signed_decimal (letter_at t d) ≡ short_text (letter_at t d)
  pub back : option_and_then (digit_if_letter t) (letter_value (signed_decimal (letter_at t d))) ≡ Some d
  pub word : is_word (signed_decimal (letter_at t d)) ≡ true
  pub narrow : 2 ^ (1 + length (signed_decimal (letter_at t d))) ≤ letter_count t * letter_count t

option_is : (a : Option ℕ) (d : ℕ) → option_eq nat_eq a (Some d) ≡ true → a ≡ Some d
option_is None d h = cc
option_is (Some x) d h = let same : x ≡ d = grind (arith, nat_tests) in ap Some same

pub letter_text : (t : CartanType) (d : ℕ) → IsCartan t → d < letter_count t → IsLetterText t d
unfolding letters
letter_text t d c below =
    let cell : text_cell t.kind t.rank d ≡ true =
    below_at (letter_count t) (text_cell t.kind t.rank) (ranks_at (λ k r. all_below (letter_count_of k r) (text_cell k r)) text_rows t c) d below in
    let (front, narrow) = and_parts _ _ cell in
    let (former, word) = and_parts _ _ front in
    let (short, back) = and_parts _ _ former in
    let same : signed_decimal (letter_at t d) ≡ short_text (letter_at t d) = short_decimal (letter_at t d) short in
    record {
      text = same;
      back = rw same (option_is _ d back);
      word = rw same word;
      narrow = rw same (grind (arith, nat_tests));
    }

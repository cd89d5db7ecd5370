-- Texts of words: their lengths, and what is read of them.
use Rattle.std.proofs.Common.{◌≡◌, ◌∙◌, refl, ap, ℕ, zero, suc, ◌+◌, ◌*◌, ◌^◌, ◌≤◌, ◌<◌, ◌==◌, nat_le, Bool, true, false, IsTrue, List, [], ◌∷◌, length, map, get_or, Some, Ok, Err, inl, inr, arith, if◌then◌else◌}
use Rattle.std.specs.List.{list_all}
use Rattle.std.proofs.Math.Nat.{pow-le-pow_right, mul-le-mul}
use Rattle.std.proofs.lemmas.List.{length-map}
use Rattle.std.proofs.lemmas.Nat.{pow-add}
use Rattle.std.proofs.lemmas.Bool.{and_parts, cases_lt}
use Rattle.std.proofs.lemmas.Bool.Decides.{nat_tests}
use Rattle.crystal_cartan.specs.Types.{CartanType, IsCartan}
use Rattle.crystal_cartan.specs.declared.types.Kind.{Kind}
use Rattle.crystal_cartan.specs.declared.types.Kind.TheVariants.{A, B, C, D}
use Rattle.vector_crystals.proofs.Tables.{all_ranks, ranks_at}
use Rattle.spin_crystals.specs.Signs.{has_half, half_size, signs_at}
use Rattle.spin_crystals.specs.declared.signs.Half.{Half}
use Rattle.spin_crystals.specs.declared.signs.Half.TheVariants.{Whole, Plus, Minus}
use Rattle.spin_crystals.proofs.Places.{length-signs_at}
use Rattle.tensor_words.specs.declared.spaces.Factor.{Factor}
use Rattle.tensor_words.specs.declared.spaces.Factor.TheVariants.{Vector, Spin, SpinPlus, SpinMinus}
use Rattle.tensor_words.specs.Spaces.{SpaceType, IsSpace, has_factor, base_size, size, product, factor_at}
use Rattle.tensor_words.specs.Codes.{IsWord, AreDigits}
use Rattle.tensor_words.proofs.SpaceWords.{length_word}
use Rattle.text_pieces.specs.Pieces.{is_word, words, spaced}
use Rattle.text_pieces.proofs.Spaced.{spaced_words}
use Rattle.tableau_reading.specs.declared.parsing.WordFault.TheVariants.{WrongLength}
use Rattle.tableau_reading.specs.Texts.{token, tokens, tokens_along, signs_text, word_text}
use Rattle.tableau_reading.specs.Tokens.{token_digit, digits_from, word_read}
use Rattle.tableau_reading.proofs.SignTexts.{half_back, signs_are_word}
use Rattle.tableau_reading.proofs.LetterTexts.{letter_text}
use Rattle.tableau_reading.proofs.Spacing.{total_length, spaced_length}
use Rattle.crystal_cartan.proofs.Ranks.{rank_positive}

-- ---- the tokens of a word

pub length-tokens_along : (t : CartanType) (fs : List Factor) (ds : List ℕ) → length ds ≡ length fs → length (tokens_along t fs ds) ≡ length fs
length-tokens_along t [] ds same = refl
length-tokens_along t (f ∷ fs) [] same = absurd (omega arith)
length-tokens_along t (f ∷ fs) (d ∷ ds) same = ap suc (length-tokens_along t fs ds (omega arith))

pub length-tokens : (s : SpaceType) (w : List ℕ) → IsWord s w → length (tokens s w) ≡ length s.factors
length-tokens s w word = length-tokens_along s.cartan s.factors w (length_word s w word)

token_along : (t : CartanType) (fs : List Factor) (ds : List ℕ) (n : ℕ) → n < length fs → length ds ≡ length fs →
    token t (get_or fs n Vector) (get_or ds n 0) ≡ get_or (tokens_along t fs ds) n []
token_along t [] ds n lt same = absurd (omega arith)
token_along t (f ∷ fs) [] n lt same = absurd (omega arith)
token_along t (f ∷ fs) (d ∷ ds) zero lt same = refl
token_along t (f ∷ fs) (d ∷ ds) (suc n) lt same = token_along t fs ds n (omega arith) (omega arith)

pub token_at : (s : SpaceType) (w : List ℕ) (n : ℕ) → IsWord s w → n < length s.factors →
    token s.cartan (factor_at s n) (get_or w n 0) ≡ get_or (tokens s w) n []
token_at s w n word lt = token_along s.cartan s.factors w n lt (length_word s w word)

-- ---- one token

-- what a token is: a word that is read as the digit, and 2 to the number of its bytes with a blank
-- is at most the square of the number of elements
pub record IsToken (t : CartanType) (f : Factor) (d : ℕ) : Type 0 where
  pub back : token_digit t f (token t f d) ≡ Some d
  pub word : is_word (token t f d) ≡ true
  pub narrow : 2 ^ (1 + length (token t f d)) ≤ base_size t f * base_size t f

-- whether the vectors of a half are long enough in number
abbrev half_cell : Half → Kind → ℕ → Bool
half_cell half k r = if has_half k half then nat_le (2 ^ (1 + r)) (half_size half r * half_size half r) else true

half_rows : (half : Half) (k : Kind) → all_ranks (half_cell half) k ≡ true
half_rows Whole A = refl
half_rows Whole B = refl
half_rows Whole C = refl
half_rows Whole D = refl
half_rows Plus A = refl
half_rows Plus B = refl
half_rows Plus C = refl
half_rows Plus D = refl
half_rows Minus A = refl
half_rows Minus B = refl
half_rows Minus C = refl
half_rows Minus D = refl

half_narrow : (t : CartanType) (half : Half) (d : ℕ) → IsCartan t → IsTrue (has_half t.kind half) →
    2 ^ (1 + length (signs_text (signs_at half t.rank d))) ≤ half_size half t.rank * half_size half t.rank
half_narrow t half d c had =
    let some : 1 ≤ t.rank = rank_positive t c in
    let bytes : length (signs_text (signs_at half t.rank d)) ≡ t.rank = length-map (signs_at half t.rank d) _ ∙ length-signs_at half t.rank d some in
    let cell : half_cell half t.kind t.rank ≡ true = ranks_at (half_cell half) (half_rows half) t c in
    let test = rw had at cell in
    rw bytes (grind (arith, nat_tests, test))

half_word : (t : CartanType) (half : Half) (d : ℕ) → IsCartan t → is_word (signs_text (signs_at half t.rank d)) ≡ true
half_word t half d c =
    let some : 1 ≤ t.rank = rank_positive t c in
    signs_are_word (signs_at half t.rank d) (omega (arith, length-signs_at half t.rank d some))

pub token_is : (t : CartanType) (f : Factor) (d : ℕ) → IsCartan t → IsTrue (has_factor t.kind f) → d < base_size t f → IsToken t f d
unfolding token token_digit base_size
token_is t Vector d c had below = let text = letter_text t d c below in record { back = text.back; word = text.word; narrow = text.narrow }
token_is t Spin d c had below = record { back = half_back t Whole d (rank_positive t c) below; word = half_word t Whole d c; narrow = half_narrow t Whole d c had }
token_is t SpinPlus d c had below = record { back = half_back t Plus d (rank_positive t c) below; word = half_word t Plus d c; narrow = half_narrow t Plus d c had }
token_is t SpinMinus d c had below = record { back = half_back t Minus d (rank_positive t c) below; word = half_word t Minus d c; narrow = half_narrow t Minus d c had }

-- ---- all tokens

square : (a b : ℕ) → (a * a) * (b * b) ≡ (a * b) * (a * b)
square a b = omega arith

narrow_along : (t : CartanType) (fs : List Factor) (ds : List ℕ) → IsCartan t → IsTrue (list_all (has_factor t.kind) fs) → AreDigits (map (base_size t) fs) ds →
    2 ^ total_length (tokens_along t fs ds) ≤ product (map (base_size t) fs) * product (map (base_size t) fs)
narrow_along t [] ds c had digits = omega arith
narrow_along t (f ∷ fs) [] c had digits = absurd digits
narrow_along t (f ∷ fs) (d ∷ ds) c had digits =
    let (here, rest) = and_parts (has_factor t.kind f) (list_all (has_factor t.kind) fs) had in
    let first : 2 ^ (1 + length (token t f d)) ≤ base_size t f * base_size t f = (token_is t f d c here digits.0).narrow in
    let others = narrow_along t fs ds c rest digits.1 in
    rw (pow-add 2 (1 + length (token t f d)) (total_length (tokens_along t fs ds)), ← square (base_size t f) (product (map (base_size t) fs))) (mul-le-mul first others)

-- a word has at most 126 bytes
pub text_short : (s : SpaceType) (w : List ℕ) → IsSpace s → IsWord s w → length (spaced (tokens s w)) ≤ 126
text_short s w space word =
    let narrow : 2 ^ total_length (tokens s w) ≤ size s * size s = narrow_along s.cartan s.factors w space.cartan space.had word in
    let most : size s * size s ≤ 2 ^ 63 * 2 ^ 63 = mul-le-mul space.narrow space.narrow in
    elim (cases_lt 126 (total_length (tokens s w))) [
      | inl over ↦
          let up : 127 ≤ total_length (tokens s w) = omega arith in
          let more : 2 ^ 127 ≤ 2 ^ total_length (tokens s w) = pow-le-pow_right (omega arith) up in
          absurd (omega arith)
      | inr within ↦ omega (arith, spaced_length (tokens s w))
    ]

words_along : (t : CartanType) (fs : List Factor) (ds : List ℕ) → IsCartan t → IsTrue (list_all (has_factor t.kind) fs) → AreDigits (map (base_size t) fs) ds →
    list_all is_word (tokens_along t fs ds) ≡ true
words_along t [] ds c had digits = refl
words_along t (f ∷ fs) [] c had digits = absurd digits
words_along t (f ∷ fs) (d ∷ ds) c had digits =
    let (here, rest) = and_parts (has_factor t.kind f) (list_all (has_factor t.kind) fs) had in
    rw ((token_is t f d c here digits.0).word, words_along t fs ds c rest digits.1) refl

digits_back : (t : CartanType) (place : ℕ) (fs : List Factor) (ds : List ℕ) → IsCartan t → IsTrue (list_all (has_factor t.kind) fs) → AreDigits (map (base_size t) fs) ds →
    digits_from t place fs (tokens_along t fs ds) ≡ Ok ds
digits_back t place [] [] c had digits = refl
digits_back t place [] (d ∷ ds) c had digits = absurd digits
digits_back t place (f ∷ fs) [] c had digits = absurd digits
digits_back t place (f ∷ fs) (d ∷ ds) c had digits =
    let (here, rest) = and_parts (has_factor t.kind f) (list_all (has_factor t.kind) fs) had in
    rw ((token_is t f d c here digits.0).back, digits_back t (place + 1) fs ds c rest digits.1) refl

-- tokens, one for each factor, are read from the first on
pub word_read-whole : (s : SpaceType) (ts : List (List ℕ)) → length ts ≡ length s.factors → word_read s ts ≡ digits_from s.cartan 1 s.factors ts
unfolding word_read
word_read-whole s ts same =
    let test : (length ts == length s.factors) ≡ true = grind (arith, nat_tests) in
    rw test refl

pub word_read-length : (s : SpaceType) (ts : List (List ℕ)) → (length ts ≡ length s.factors → ⊥) → Err WrongLength ≡ word_read s ts
unfolding word_read
word_read-length s ts other =
    let test : (length ts == length s.factors) ≡ false = grind (arith, nat_tests, other) in
    rw test refl

-- what is printed of a word is read as the word
pub text_back : (s : SpaceType) (w : List ℕ) → IsSpace s → IsWord s w → word_read s (words (word_text s w)) ≡ Ok w
unfolding word_text
text_back s w space word =
    let cut : words (spaced (tokens s w)) ≡ tokens s w = spaced_words (tokens s w) (words_along s.cartan s.factors w space.cartan space.had word) in
    rw cut (word_read-whole s (tokens s w) (length-tokens s w word) ∙ digits_back s.cartan 1 s.factors w space.cartan space.had word)

-- The texts of words and of indices are printed, and are read back.
use Rattle.std.proofs.Common.{◌≡◌, ◌∙◌, refl, ℕ, ◌+◌, ◌≤◌, ◌<◌, ◌==◌, ◌&&◌, nat_le, Bool, true, false, List, [], ◌∷◌, ◌++◌, length, map, get_or, ℤ, pos, Ok, Err, arith}
use Rattle.std.specs.Prelude.{decimal}
use Rattle.std.specs.Fmt.{signed_decimal}
use Rattle.std.specs.List.{list_all}
use Rattle.std.proofs.lemmas.List.Folds.{list_all-append}
use Rattle.std.proofs.lemmas.Bool.{and_parts, le-leb}
use Rattle.std.proofs.lemmas.Bool.Decides.{nat_tests}
use Rattle.std.proofs.lemmas.Fmt.{decimal_digit}
use Rattle.crystal_cartan.specs.Types.{CartanType, IsCartan, HasIndex}
use Rattle.crystal_cartan.specs.declared.types.Kind.{Kind}
use Rattle.crystal_cartan.specs.declared.types.Kind.TheVariants.{A, B, C, D}
use Rattle.vector_crystals.specs.Letters.{letters, letters_of, letter_count, letter_count_of, letter_at}
use Rattle.vector_crystals.proofs.Tables.{all_below, below_at, all_ranks, ranks_at}
use Rattle.spin_crystals.specs.Signs.{signs_at}
use Rattle.spin_crystals.specs.declared.signs.Half.TheVariants.{Whole, Plus, Minus}
use Rattle.tensor_words.specs.declared.spaces.Factor.{Factor}
use Rattle.tensor_words.specs.declared.spaces.Factor.TheVariants.{Vector, Spin, SpinPlus, SpinMinus}
use Rattle.tensor_words.specs.Spaces.{SpaceType, IsSpace, base_size}
use Rattle.tensor_words.specs.Codes.{IsWord, AreDigits, code_of}
use Rattle.text_pieces.specs.Pieces.{is_word, words, spaced, are_printed}
use Rattle.text_pieces.proofs.Values.{number_printed}
use Rattle.tableau_reading.specs.declared.parsing.WordFault.TheVariants.{WrongLength}
use Rattle.tableau_reading.specs.Texts.{token, tokens, tokens_along, signs_text, word_text}
use Rattle.tableau_reading.specs.Tokens.{word_read}
use Rattle.tableau_reading.proofs.LetterTexts.{short_text, is_short, short_decimal}
use Rattle.tableau_reading.proofs.WordTexts.{text_short, text_back, word_read-length}
use Rattle.job_text.specs.Judge.{coded, indexed}

-- ---- printed texts one after another

is_printed : ℕ → Bool
is_printed byte = nat_le 32 byte && nat_le byte 126

pub printed_append : (x y : List ℕ) → are_printed x ≡ true → are_printed y ≡ true → are_printed (x ++ y) ≡ true
unfolding is_printed
printed_append x y front back = list_all-append is_printed x y ∙ rw (front, back) refl

printed_spaced : (ts : List (List ℕ)) → list_all are_printed ts ≡ true → are_printed (spaced ts) ≡ true
printed_spaced [] good = refl
printed_spaced (x ∷ []) good = (and_parts (are_printed x) true good).0
printed_spaced (x ∷ y ∷ ys) good =
    let (here, there) = and_parts (are_printed x) (list_all are_printed (y ∷ ys)) good in
    printed_append x (32 ∷ spaced (y ∷ ys)) here (printed_spaced (y ∷ ys) there)

-- ---- words

abbrev letter_cell : Kind → ℕ → ℕ → Bool
letter_cell k r d =
    let x : ℤ = get_or (letters_of k r) d (pos 0) in
    is_short x && are_printed (short_text x)

letter_rows : (k : Kind) → all_ranks (λ k r. all_below (letter_count_of k r) (letter_cell k r)) k ≡ true
letter_rows A = refl
letter_rows B = refl
letter_rows C = refl
letter_rows D = refl

printed_letter : (t : CartanType) (d : ℕ) → IsCartan t → d < letter_count t → are_printed (signed_decimal (letter_at t d)) ≡ true
unfolding letters
printed_letter t d c below =
    let cell : letter_cell t.kind t.rank d ≡ true =
    below_at (letter_count t) (letter_cell t.kind t.rank) (ranks_at (λ k r. all_below (letter_count_of k r) (letter_cell k r)) letter_rows t c) d below in
    let (short, printed) = and_parts _ _ cell in
    rw (short_decimal (letter_at t d) short) printed

printed_signs : (v : List Bool) → are_printed (signs_text v) ≡ true
printed_signs [] = refl
printed_signs (true ∷ v) = printed_signs v
printed_signs (false ∷ v) = printed_signs v

printed_token : (t : CartanType) (f : Factor) (d : ℕ) → IsCartan t → d < base_size t f → are_printed (token t f d) ≡ true
unfolding token base_size
printed_token t Vector d c below = printed_letter t d c below
printed_token t Spin d c below = printed_signs (signs_at Whole t.rank d)
printed_token t SpinPlus d c below = printed_signs (signs_at Plus t.rank d)
printed_token t SpinMinus d c below = printed_signs (signs_at Minus t.rank d)

printed_tokens : (t : CartanType) (fs : List Factor) (ds : List ℕ) → IsCartan t → AreDigits (map (base_size t) fs) ds →
    list_all are_printed (tokens_along t fs ds) ≡ true
printed_tokens t [] ds c digits = refl
printed_tokens t (f ∷ fs) [] c digits = refl
printed_tokens t (f ∷ fs) (d ∷ ds) c digits = rw (printed_token t f d c digits.0, printed_tokens t fs ds c digits.1) refl

some_tokens : (s : SpaceType) (ts : List (List ℕ)) (w : List ℕ) → 0 < length s.factors → word_read s ts ≡ Ok w → 1 ≤ length ts
some_tokens s [] w some read =
    let wrong : Err WrongLength ≡ Ok w = word_read-length s [] (λ same. omega arith) ∙ read in
    absurd cc
some_tokens s (x ∷ xs) w some read = omega arith

-- what is known of the text of a word
pub record IsWordText (s : SpaceType) (w text : List ℕ) : Type 0 where
  pub printed : are_printed text ≡ true
  pub short : length text ≤ 126
  pub read : coded s (words text) ≡ Ok (code_of s w)
  pub some : 1 ≤ length (words text)

printed_text : (s : SpaceType) (w : List ℕ) → IsSpace s → IsWord s w → are_printed (word_text s w) ≡ true
unfolding word_text
printed_text s w space word = printed_spaced (tokens s w) (printed_tokens s.cartan s.factors w space.cartan word)

few_bytes : (s : SpaceType) (w : List ℕ) → IsSpace s → IsWord s w → length (word_text s w) ≤ 126
unfolding word_text
few_bytes s w space word = text_short s w space word

pub word_text_is : (s : SpaceType) (w : List ℕ) → IsSpace s → IsWord s w → IsWordText s w (word_text s w)
word_text_is s w space word =
    let back : word_read s (words (word_text s w)) ≡ Ok w = text_back s w space word in
    record {
      printed = printed_text s w space word;
      short = few_bytes s w space word;
      read = rw back refl;
      some = some_tokens s (words (word_text s w)) w space.some back;
    }

-- ---- indices

-- what is known of the text of an index
pub record IsIndexText (s : SpaceType) (i : ℕ) (text : List ℕ) : Type 0 where
  pub printed : are_printed text ≡ true
  pub short : length text ≤ 1
  pub word : is_word text ≡ true
  pub read : indexed s text ≡ Ok i

pub index_text_is : (s : SpaceType) (i : ℕ) → IsCartan s.cartan → HasIndex s.cartan i → IsIndexText s i (decimal i)
index_text_is s i c index =
    let small : i < 10 = omega (arith, index.high, c.high) in
    let digit : decimal i ≡ (48 + i) ∷ [] = decimal_digit i small in
    let low : nat_le 32 (48 + i) ≡ true = le-leb 32 (48 + i) (omega arith) in
    let high : nat_le (48 + i) 126 ≡ true = le-leb (48 + i) 126 (omega arith) in
    let other : (48 + i == 32) ≡ false = grind (arith, nat_tests) in
    let first : nat_le 1 i ≡ true = le-leb 1 i index.low in
    let last : nat_le i s.cartan.rank ≡ true = le-leb i s.cartan.rank index.high in
    record {
      printed = rw (digit, low, high) refl;
      short = rw digit (omega arith);
      word = rw (digit, other) refl;
      read = rw (number_printed i (omega arith), first, last) refl;
    }

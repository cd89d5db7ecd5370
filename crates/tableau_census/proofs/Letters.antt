-- Semistandard fillings by the digits of their readings, in type A.
use Rattle.std.proofs.Common.{◌≡◌, ◌∙◌, refl, sym, ap, subst, ℕ, suc, ◌+◌, ◌<◌, ◌≤◌, List, length, get_or, ℤ, pos, ◌≤ℤ◌, ◌<ℤ◌, ◌↔◌, arith}
use Rattle.std.proofs.lemmas.Int.{ints}
use Rattle.std.proofs.lemmas.List.{get_or-map, length-map}
use Rattle.crystal_cartan.specs.Types.{CartanType, coordinates_of}
use Rattle.crystal_cartan.specs.declared.types.Kind.TheVariants.{A}
use Rattle.vector_crystals.specs.Letters.{IsLetter, letter_at, letter_digit, letter_count, letter_count_of}
use Rattle.vector_crystals.proofs.Digits.{letter_at-letter, letter_digit-below, letter_at-letter_digit}
use Rattle.tensor_words.specs.Codes.{IsWord, code_of}
use Rattle.tableau_reading.specs.Shapes.{ShapeType, IsShape, shape_space, box_count}
use Rattle.tableau_reading.specs.Readings.{Box, box, boxes_read, place}
use Rattle.tableau_reading.specs.Fillings.{FillingType, IsFilling, letter_in, filling_word, filling_of}
use Rattle.tableau_reading.proofs.HighestTops.{unbarred}
use Rattle.tableau_reading.proofs.Orders.{placed, read_at, length-boxes_read}
use Rattle.tableau_reading.proofs.FilledRows.{letter_from, rows_again, word_again, digit_of_word}
use Rattle.tableau_census.specs.Semistandard.{entry, IsSemistandard, IsReadingCode}
use Rattle.tableau_census.specs.Laws.{ReadingsAreOfFillings}
use Rattle.tableau_census.proofs.ShapeWords.{word_from_digits}
use Rattle.tableau_census.proofs.Neighbours.{row_above}

-- in type A each letter is one more than its digit
unbarred_count : (t : CartanType) → t.kind ≡ A → letter_count t ≡ coordinates_of t.kind t.rank
unbarred_count t kind = subst (λ k. letter_count_of k t.rank ≡ coordinates_of k t.rank) (sym kind) (omega arith)

module _ (f : FillingType) (good : IsFilling f) where
  abbrev shape : ShapeType
  shape = f.shape

  abbrev fill : ℕ → ℕ → ℕ
  fill r c = letter_digit f.shape.cartan (letter_in f r c)

  digit_read : (r c : ℕ) → c < get_or f.shape.rows r 0 → entry f.shape (filling_word f) r c ≡ letter_digit f.shape.cartan (letter_in f r c)
  digit_read r c lt =
      let there = placed f.shape r c good.shape lt in
      let total : length (boxes_read f.shape) ≡ box_count f.shape = length-boxes_read f.shape good.shape.falling in
      let of_box : Box → ℕ = λ b. letter_digit f.shape.cartan (letter_in f b.row b.column) in
      get_or-map of_box (boxes_read f.shape) (place f.shape r c) (box 0 0) 0 (omega (arith, there.below)) ∙ ap of_box there.there

  letter_read : (r c : ℕ) → f.shape.cartan.kind ≡ A → c < get_or f.shape.rows r 0 → letter_in f r c ≡ pos (entry f.shape (filling_word f) r c + 1)
  letter_read r c kind lt =
      let letter = good.letters r c lt in
      let small = letter_digit-below f.shape.cartan (letter_in f r c) good.shape.cartan letter in
      let plain : letter_at f.shape.cartan (letter_digit f.shape.cartan (letter_in f r c)) ≡ pos (letter_digit f.shape.cartan (letter_in f r c) + 1) =
      unbarred f.shape.cartan (letter_digit f.shape.cartan (letter_in f r c)) good.shape.cartan (omega (arith, unbarred_count f.shape.cartan kind)) in
      sym (letter_at-letter_digit f.shape.cartan (letter_in f r c) good.shape.cartan letter) ∙ (plain ∙ ap (λ d. pos (d + 1)) (sym (digit_read r c lt)))

  filled_word : IsWord (shape_space f.shape) (filling_word f)
  filled_word =
      let total : length (boxes_read f.shape) ≡ box_count f.shape = length-boxes_read f.shape good.shape.falling in
      let of_box : Box → ℕ = λ b. letter_digit f.shape.cartan (letter_in f b.row b.column) in
      word_from_digits f.shape (filling_word f) (length-map (boxes_read f.shape) of_box ∙ total) (λ k lt.
      let known = read_at f.shape k good.shape lt in
      let digit : get_or (filling_word f) k 0 ≡ of_box (get_or (boxes_read f.shape) k (box 0 0)) = get_or-map of_box (boxes_read f.shape) k (box 0 0) 0 (omega arith) in
      omega (
        arith,
        digit,
        letter_digit-below f.shape.cartan (letter_in f (get_or (boxes_read f.shape) k (box 0 0)).row (get_or (boxes_read f.shape) k (box 0 0)).column) good.shape.cartan
            (good.letters _ _ known.within),
      ))

weakly : (x y : ℤ) (m n : ℕ) → x ≡ pos (m + 1) → y ≡ pos (n + 1) → (x ≤ℤ y) ↔ (m ≤ n)
weakly x y m n first second = (λ h. omega (arith, ints), λ h. omega (arith, ints))

strictly : (x y : ℤ) (m n : ℕ) → x ≡ pos (m + 1) → y ≡ pos (n + 1) → (x <ℤ y) ↔ (m < n)
strictly x y m n first second = (λ h. omega (arith, ints), λ h. omega (arith, ints))

pub readings_are_of_fillings : ReadingsAreOfFillings
readings_are_of_fillings f good kind = (
  λ h. record {
    rows = λ r c lt. (row_pair r c lt).0 (h.rows r c lt);
    columns = λ r c lt. (column_pair r c lt).0 (h.columns r c lt);
  },
  λ h. record {
    filling = good;
    rows = λ r c lt. (row_pair r c lt).1 (h.rows r c lt);
    columns = λ r c lt. (column_pair r c lt).1 (h.columns r c lt);
  },
)
  where
    row_pair : (r c : ℕ) → suc c < get_or f.shape.rows r 0
        → (letter_in f r c ≤ℤ letter_in f r (suc c)) ↔ (entry f.shape (filling_word f) r c ≤ entry f.shape (filling_word f) r (suc c))
    row_pair r c lt = weakly _ _ _ _ (letter_read f good r c kind (omega arith)) (letter_read f good r (suc c) kind lt)

    column_pair : (r c : ℕ) → c < get_or f.shape.rows (suc r) 0
        → (letter_in f r c <ℤ letter_in f (suc r) c) ↔ (entry f.shape (filling_word f) r c < entry f.shape (filling_word f) (suc r) c)
    column_pair r c lt =
        strictly _ _ _ _ (letter_read f good r c kind (row_above f.shape.rows r (suc r) c good.shape.falling lt (omega arith))) (letter_read f good (suc r) c kind lt)

-- the filling that is read as a word
word_filled : (s : ShapeType) (w : List ℕ) → IsShape s → IsWord (shape_space s) w → IsFilling (filling_of s w)
word_filled s w h word = record {
  shape = h;
  rows = rows_again s (λ r c. letter_at s.cartan (get_or w (place s r c) 0));
  letters = λ r c lt.
      subst (IsLetter s.cartan) (sym (letter_from s (λ i j. letter_at s.cartan (get_or w (place s i j) 0)) r c lt))
      (letter_at-letter s.cartan (get_or w (place s r c) 0) h.cartan (digit_of_word s w (place s r c) word (placed s r c h lt).below));
}

-- the code is that of a word whose digits are semistandard
pub record IsSemistandardCode (s : ShapeType) (c : ℕ) : Type 0 where
  pub word : List ℕ
  pub lawful : IsWord (shape_space s) word
  pub semistandard : IsSemistandard s word
  pub code : code_of (shape_space s) word ≡ c

pub code_from_filling : (s : ShapeType) (c : ℕ) → s.cartan.kind ≡ A → IsReadingCode s c → IsSemistandardCode s c
code_from_filling s c kind r =
    let own : r.filling.shape.cartan.kind ≡ A = ap (λ (x : ShapeType). x.cartan.kind) r.shape ∙ kind in
    let digits = (readings_are_of_fillings r.filling r.semistandard.filling own).0 r.semistandard in
    record {
      word = filling_word r.filling;
      lawful = subst (λ x. IsWord (shape_space x) (filling_word r.filling)) r.shape (filled_word r.filling r.semistandard.filling);
      semistandard = subst (λ x. IsSemistandard x (filling_word r.filling)) r.shape digits;
      code = r.code;
    }

pub filling_from_code : (s : ShapeType) (c : ℕ) → IsShape s → s.cartan.kind ≡ A → IsSemistandardCode s c → IsReadingCode s c
filling_from_code s c h kind r =
    let again : filling_word (filling_of s r.word) ≡ r.word = word_again s r.word h r.lawful in
    let good : IsFilling (filling_of s r.word) = word_filled s r.word h r.lawful in
    record {
      filling = filling_of s r.word;
      shape = refl;
      semistandard = (readings_are_of_fillings (filling_of s r.word) good kind).1 (subst (IsSemistandard s) (sym again) r.semistandard);
      code = ap (code_of (shape_space s)) again ∙ r.code;
    }

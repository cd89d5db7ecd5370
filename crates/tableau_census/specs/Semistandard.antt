-- Semistandard tableaux: fillings whose rows weakly rise and whose columns strictly rise (Bump and Schilling, Crystal Bases, 2017, chapter 3).
-- Rows and columns count from 0 here.
use Rattle.std.specs.Prelude.{ℕ, suc, ◌≡◌, ◌≤◌, ◌<◌, List, slice_index, ◌≤ℤ◌, ◌<ℤ◌, Contains}
use Rattle.std.specs.List.Sorted.{IsStrictlyIncreasing}
use Rattle.tensor_words.specs.Codes.{code_of}
use Rattle.tableau_reading.specs.Shapes.{ShapeType, shape_space}
use Rattle.tableau_reading.specs.Readings.{place}
use Rattle.tableau_reading.specs.Fillings.{FillingType, IsFilling, letter_in, filling_word}

-- rows weakly rise from left to right, columns strictly from top to bottom
pub record IsSemistandardFilling (f : FillingType) : Type 0 where
  pub filling : IsFilling f
  pub rows : (r c : ℕ) → suc c < slice_index f.shape.rows r → letter_in f r c ≤ℤ letter_in f r (suc c)
  pub columns : (r c : ℕ) → c < slice_index f.shape.rows (suc r) → letter_in f r c <ℤ letter_in f (suc r) c

-- the code is that of the column reading of a semistandard filling of the shape
pub record IsReadingCode (s : ShapeType) (c : ℕ) : Type 0 where
  pub filling : FillingType
  pub shape : filling.shape ≡ s
  pub semistandard : IsSemistandardFilling filling
  pub code : code_of (shape_space s) (filling_word filling) ≡ c

-- the census of a shape: the codes of the column readings of all its semistandard fillings, ascending
pub record IsCensus (s : ShapeType) (codes : List ℕ) : Type 0 where
  pub ascending : IsStrictlyIncreasing codes
  pub sound : (c : ℕ) → Contains codes c → IsReadingCode s c
  pub complete : (c : ℕ) → IsReadingCode s c → Contains codes c

-- the digit that a word has in a box
abbrev pub entry : ShapeType → List ℕ → ℕ → ℕ → ℕ
entry s w r c = slice_index w (place s r c)

-- the same by the digits of a reading
pub record IsSemistandard (s : ShapeType) (w : List ℕ) : Type 0 where
  pub rows : (r c : ℕ) → suc c < slice_index s.rows r → entry s w r c ≤ entry s w r (suc c)
  pub columns : (r c : ℕ) → c < slice_index s.rows (suc r) → entry s w r c < entry s w (suc r) c

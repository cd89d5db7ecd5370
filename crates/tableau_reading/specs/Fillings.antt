-- Fillings of shapes by letters, and the words that they are read as.
use Rattle.std.specs.Prelude.{◌≡◌, ℕ, ◌-◌, ◌<◌, ◌≤◌, ◌==◌, ◌&&◌, if◌then◌else◌, List, [], map, length, slice_index, slice_index_or, ℤ, pos}
use Rattle.std.specs.List.{range_with_len}
use Rattle.crystal_cartan.specs.Types.{CartanType}
use Rattle.vector_crystals.specs.Letters.{IsLetter, letter_at, letter_digit}
use Rattle.tableau_reading.specs.Shapes.{ShapeType, IsShape}
use Rattle.tableau_reading.specs.Readings.{reading, place}

-- a filling, as contracts see it: a shape, and the letters of each row from the top down
pub record FillingType : Type 0 where
  pub shape : ShapeType
  pub rows : List (List ℤ)

-- the filling with these rows; contracts make a filling by this word alone
abbrev pub filling : ShapeType → List (List ℤ) → FillingType
filling s rows = record { shape = s; rows = rows }

-- the letters of a row, counted from 0, and the letter in a box
abbrev pub row_at : FillingType → ℕ → List ℤ
row_at f r = slice_index_or f.rows r []

abbrev pub letter_in : FillingType → ℕ → ℕ → ℤ
letter_in f r c = slice_index_or (row_at f r) c (pos 0)

-- the box is in the shape; here rows and columns count from 1
pub record HasBox (s : ShapeType) (row column : ℕ) : Type 0 where
  pub row_low : 1 ≤ row
  pub row_high : row ≤ length s.rows
  pub column_low : 1 ≤ column
  pub column_high : column ≤ slice_index s.rows (row - 1)

-- rows with these letters in the boxes of a shape
abbrev pub rows_from : ShapeType → (ℕ → ℕ → ℤ) → List (List ℤ)
rows_from s fill = map (λ r. map (fill r) (range_with_len 0 (slice_index s.rows r))) (range_with_len 0 (length s.rows))

-- the filling is whole: a letter of the type in every box of a shape that is taken
pub record IsFilling (f : FillingType) : Type 0 where
  pub shape : IsShape f.shape
  pub rows : f.rows ≡ rows_from f.shape (letter_in f)
  pub letters : (r c : ℕ) → c < slice_index f.shape.rows r → IsLetter f.shape.cartan (letter_in f r c)

-- the filling with 1 in every box
abbrev pub first_filling : ShapeType → FillingType
first_filling s = filling s (rows_from s (λ r c. pos 1))

-- the filling with another letter in one box
abbrev pub with_letter : FillingType → ℕ → ℕ → ℤ → FillingType
with_letter f row column x = filling f.shape (rows_from f.shape (λ r c. if (r == row) && (c == column) then x else letter_in f r c))

-- the word that a filling is read as, by digits
abbrev pub filling_word : FillingType → List ℕ
filling_word f = reading f.shape (λ r c. letter_digit f.shape.cartan (letter_in f r c))

-- the filling that is read as a word
abbrev pub filling_of : ShapeType → List ℕ → FillingType
filling_of s w = filling s (rows_from s (λ r c. letter_at s.cartan (slice_index w (place s r c))))

-- the filling whose letters are listed in the order of the reading
abbrev pub filling_listed : ShapeType → List ℤ → FillingType
filling_listed s letters = filling s (rows_from s (λ r c. slice_index_or letters (place s r c) (pos 0)))

-- the first n of the list are letters of the type
pub record AreLetters (t : CartanType) (n : ℕ) (letters : List ℤ) : Type 0 where
  pub at : (k : ℕ) → k < n → IsLetter t (slice_index_or letters k (pos 0))

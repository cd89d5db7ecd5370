-- Readings of shapes: the boxes in the order in which a word lists their letters (Bump and Schilling, Crystal Bases, 2017, section 3.1).
-- In Kashiwara's tensor order a word is read from the other end, so that both orders give a shape the same crystal.
-- Rows and columns count from 0 here.
use Rattle.std.specs.Prelude.{ℕ, zero, suc, ◌+◌, ◌-◌, nat_lt, if◌then◌else◌, List, [], ◌∷◌, ◌++◌, map, reverse, length}
use Rattle.std.specs.List.{range_with_len}
use Rattle.tensor_words.specs.declared.spaces.Order.{Order}
use Rattle.tensor_words.specs.declared.spaces.Order.TheVariants.{Standard, Kashiwara}
use Rattle.tableau_reading.specs.Shapes.{ShapeType, box_count}

-- a box of a shape
pub record Box : Type 0 where
  pub row : ℕ
  pub column : ℕ

abbrev pub box : ℕ → ℕ → Box
box r c = record { row = r; column = c }

-- the number of boxes in a column: of the rows that are longer than c
abbrev pub height : List ℕ → ℕ → ℕ
height [] c = 0
height (n ∷ rows) c = (if nat_lt c n then 1 else 0) + height rows c

-- the number of columns: the length of the first row
abbrev pub width : List ℕ → ℕ
width [] = 0
width (n ∷ rows) = n

-- the boxes of a column, from bottom to top
abbrev pub column_boxes : List ℕ → ℕ → List Box
column_boxes rows c = map (λ k. box (height rows c - 1 - k) c) (range_with_len 0 (height rows c))

-- the boxes of the first columns, from left to right
abbrev pub boxes_before : List ℕ → ℕ → List Box
boxes_before rows zero = []
boxes_before rows (suc c) = boxes_before rows c ++ column_boxes rows c

-- all boxes: the columns from left to right, each from bottom to top
abbrev pub boxes : List ℕ → List Box
boxes rows = boxes_before rows (width rows)

-- a list from its first element on in the standard order, and from its last one back in Kashiwara's
abbrev pub listed_in : {E : Type 0} → Order → List E → List E
listed_in Standard xs = xs
listed_in Kashiwara xs = reverse xs

-- the boxes in the order of the reading: the columns from left to right, each from bottom to top; in Kashiwara's order
-- the columns from right to left, each from top to bottom
abbrev pub boxes_read : ShapeType → List Box
boxes_read s = listed_in s.order (boxes s.rows)

-- what stands in the boxes, in the order of the reading
abbrev pub reading : {E : Type 0} → ShapeType → (ℕ → ℕ → E) → List E
reading s fill = map (λ b. fill b.row b.column) (boxes_read s)

-- where the columns from left to right have a box
abbrev pub column_place : List ℕ → ℕ → ℕ → ℕ
column_place rows r c = length (boxes_before rows c) + (height rows c - 1 - r)

-- a place of n, counted from the first in the standard order and from the last in Kashiwara's
abbrev pub place_in : Order → ℕ → ℕ → ℕ
place_in Standard n k = k
place_in Kashiwara n k = n - 1 - k

-- where the reading has a box
abbrev pub place : ShapeType → ℕ → ℕ → ℕ
place s r c = place_in s.order (box_count s) (column_place s.rows r c)

-- the top word of a shape: the i-th letter in every box of row i, from 1; by digits, so row r, from 0, has the digit r
unfoldable pub top_word : ShapeType → List ℕ
top_word s = reading s (λ r c. r)

-- Shapes of tableaux: Young diagrams with few enough rows for a Cartan type (Bump and Schilling, Crystal Bases, 2017, chapters 3 and 6).
use Rattle.std.specs.Prelude.{◌≡◌, ℕ, ◌*◌, ◌-◌, ◌^◌, ◌≤◌, ◌==◌, ◌&&◌, ◌||◌, nat_le, nat_lt, not, Bool, true, false, if◌then◌else◌, List, [], ◌∷◌, length, slice_index, sum, replicate, ℤ, pos, Result, Ok, Err}
use Rattle.std.specs.List.{list_any}
use Rattle.crystal_cartan.specs.Types.{CartanType, IsCartan, coordinates}
use Rattle.crystal_cartan.specs.Weights.{weight_from}
use Rattle.vector_crystals.specs.Letters.{letter_count}
use Rattle.tensor_words.specs.declared.spaces.Factor.TheVariants.{Vector}
use Rattle.tensor_words.specs.declared.spaces.Order.{Order}
use Rattle.tensor_words.specs.declared.spaces.Order.TheVariants.{Standard}
use Rattle.tensor_words.specs.Spaces.{SpaceType, tensor_space, ordered}
use Rattle.tableau_reading.specs.declared.shapes.ShapeFault.{ShapeFault}
use Rattle.tableau_reading.specs.declared.shapes.ShapeFault.TheVariants.{Empty, NotFalling, TooTall, TooManyBoxes}

-- a shape, as contracts see it: its type, the lengths of its rows from the top down, and the tensor order of its words
pub record ShapeType : Type 0 where
  pub cartan : CartanType
  pub rows : List ℕ
  pub order : Order

-- the shape with these rows, in the standard order; contracts make a shape by this word and the next alone
abbrev pub tableau_shape : CartanType → List ℕ → ShapeType
tableau_shape t rows = record { cartan = t; rows = rows; order = Standard }

-- the same shape, its words in this tensor order
abbrev pub shape_in : Order → ShapeType → ShapeType
shape_in o s = record { cartan = s.cartan; rows = s.rows; order = o }

-- whether there is no row, or a row with no box
abbrev pub is_empty : List ℕ → Bool
is_empty rows = (length rows == 0) || list_any (λ n. n == 0) rows

-- whether no row is longer than the one above
abbrev pub is_falling : List ℕ → Bool
is_falling [] = true
is_falling (m ∷ []) = true
is_falling (m ∷ n ∷ rows) = nat_le n m && is_falling (n ∷ rows)

-- whether there are too many boxes: more than 40, or more than 2 ^ 63 words of as many letters
abbrev pub is_large : CartanType → ℕ → Bool
is_large t boxes = if nat_lt 40 boxes then true else nat_lt (2 ^ 63) (letter_count t ^ boxes)

-- the shape with these rows, or the first fault that applies; there are as many rows as a weight has coordinates at the most
unfoldable pub shape_of : CartanType → List ℕ → Result ShapeType ShapeFault
shape_of t rows =
    if is_empty rows then Err Empty
    else if not (is_falling rows) then Err NotFalling
    else if nat_lt (coordinates t) (length rows) then Err TooTall
    else if is_large t (sum rows) then Err TooManyBoxes
    else Ok (tableau_shape t rows)

-- the shape is one of those that are taken
pub record IsShape (s : ShapeType) : Type 0 where
  pub cartan : IsCartan s.cartan
  pub filled : is_empty s.rows ≡ false
  pub falling : is_falling s.rows ≡ true
  pub low : length s.rows ≤ coordinates s.cartan
  pub small : is_large s.cartan (sum s.rows) ≡ false

-- the number of boxes
abbrev pub box_count : ShapeType → ℕ
box_count s = sum s.rows

-- the words that fill a shape: one letter for each box
abbrev pub vector_space : ShapeType → SpaceType
vector_space s = tensor_space s.cartan (replicate (box_count s) Vector)

-- the same in the tensor order of the shape
abbrev pub shape_space : ShapeType → SpaceType
shape_space s = ordered s.order (vector_space s)

-- the weight of a shape: the lengths of its rows, doubled as weights are kept
abbrev pub shape_weight : ShapeType → List ℤ
shape_weight s = weight_from (coordinates s.cartan) (λ j. pos (2 * slice_index s.rows (j - 1)))

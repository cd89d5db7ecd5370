-- The census as the program lists it: box by box in the order of the reading, each digit between two bounds that the
-- boxes read before it give.
use Rattle.std.specs.Prelude.{ℕ, zero, suc, ◌+◌, ◌-◌, ◌≤◌, ◌<◌, nat_lt, if◌then◌else◌, List, [], ◌∷◌, slice_index, slice_index_or, slice_set}
use Rattle.std.specs.List.{range_with_len, flat_map}
use Rattle.vector_crystals.specs.Letters.{letter_count}
use Rattle.tensor_words.specs.Codes.{code_of}
use Rattle.tableau_reading.specs.Shapes.{ShapeType, box_count, shape_space}
use Rattle.tableau_reading.specs.Readings.{Box, box, boxes_read, top_word}
use Rattle.tableau_census.specs.Semistandard.{entry}

-- the least digit that a box may have: its left neighbour's, and in the first column the box's row, since the column
-- above it rises strictly
abbrev pub low_at : ShapeType → List ℕ → ℕ → ℕ → ℕ
low_at s w r zero = r
low_at s w r (suc c) = entry s w r c

-- the digits of a box are below this: the digit of the box beneath, and in a column's lowest box the number of letters
abbrev pub bound_at : ShapeType → List ℕ → ℕ → ℕ → ℕ
bound_at s w r c = if nat_lt c (slice_index s.rows (suc r)) then entry s w (suc r) c else letter_count s.cartan

-- the box at a place of the reading, and its two bounds
abbrev pub box_of : ShapeType → ℕ → Box
box_of s k = slice_index_or (boxes_read s) k (box 0 0)

abbrev pub low_in : ShapeType → List ℕ → ℕ → ℕ
low_in s w k = low_at s w (box_of s k).row (box_of s k).column

abbrev pub bound_in : ShapeType → List ℕ → ℕ → ℕ
bound_in s w k = bound_at s w (box_of s k).row (box_of s k).column

-- the digit at the place k of the reading is within its bounds
pub record IsBounded (s : ShapeType) (w : List ℕ) (k : ℕ) : Type 0 where
  pub low : low_in s w k ≤ slice_index w k
  pub bound : slice_index w k < bound_in s w k

-- the codes of the words that differ from w in n places at the most, from the place k on, each digit within its bounds
unfoldable pub completion_codes : ShapeType → ℕ → ℕ → List ℕ → List ℕ
completion_codes s zero k w = code_of (shape_space s) w ∷ []
completion_codes s (suc n) k w =
    flat_map (λ d. completion_codes s n (k + 1) (slice_set w k d)) (range_with_len (low_in s w k) (bound_in s w k - low_in s w k))

-- the codes of all of them, from the first box on; the word to begin with may be any
abbrev pub census_codes : ShapeType → List ℕ
census_codes s = completion_codes s (box_count s) 0 (top_word s)

-- Where words stand in the table of a wide graph: word 0 is 0, then come two words for each cell, then a word for each
-- arrow of each cell. A pair is a word of the high space and one of the low space, told as two codes; a vertex has the
-- number of its pair.
use Rattle.std.specs.Prelude.{ℕ, ◌+◌, ◌*◌, ◌/◌, ◌%◌, ◌^◌, ◌<◌, ◌≡◌, ◌≢◌, ◌⊎◌, Bool, List, length, slice_index, Option, Some, None, Contains}
use Rattle.crystal_cartan.specs.declared.types.Arrow.{Arrow}
use Rattle.tensor_words.specs.Spaces.{size}
use Rattle.tensor_words.specs.Operators.{IsArrow}
use Rattle.graph_history.specs.History.{State, vertex_at, target_at, HasSome, HasVertex}
use Rattle.graph_history.specs.ArrowRows.{edge_place, edge_word}
use Rattle.graph_rule.specs.Layout.{cell_on as flat_cell_on, is_last as is_flat_last}
use Rattle.wide_words.specs.declared.spaces.WideCode.{WideCode}
use Rattle.wide_words.specs.WideSpaces.{number}
use Rattle.wide_words.specs.WideHistory.{WideWorldType, flat, spare_cells}
use Rattle.wide_rule.specs.declared.dues.Seen.{Seen}

-- how many cells the table has: 32 more than the capacity, one for each seat that may be between its two exchanges
abbrev pub cell_count : WideWorldType → ℕ
cell_count w = w.capacity + spare_cells

abbrev pub rank : WideWorldType → ℕ
rank w = (flat w).space.cartan.rank

-- how many words the table of a world has
abbrev pub word_count : WideWorldType → ℕ
word_count w = 1 + 2 * cell_count w + cell_count w * (2 * rank w)

-- where the two words of a cell stand, and the word of an arrow
abbrev pub first_index : ℕ → ℕ
first_index c = 1 + 2 * c

abbrev pub second_index : ℕ → ℕ
second_index c = 2 + 2 * c

abbrev pub arrow_index : WideWorldType → ℕ → Arrow → ℕ
arrow_index w c a = 1 + 2 * cell_count w + edge_place (rank w) c a

-- the first word of a cell
abbrev pub first_word : List ℕ → ℕ → ℕ
first_word words c = slice_index words (first_index c)

-- the pair that has this number
abbrev pub high_of : WideWorldType → ℕ → ℕ
high_of w x = x / size w.space.low

abbrev pub low_of : WideWorldType → ℕ → ℕ
low_of w x = x % size w.space.low

abbrev pub pair_of : WideWorldType → ℕ → WideCode
pair_of w x = record { high = high_of w x; low = low_of w x }

-- the second word of a cell: 0 where it has no vertex, else the low code of its pair and 1
abbrev pub low_word : WideWorldType → Option ℕ → ℕ
low_word w None = 0
low_word w (Some x) = low_of w x + 1

-- the words are those of this state. Of a first word at a cell that has no vertex the rule of the table speaks apart
pub record IsLaid (w : WideWorldType) (words : List ℕ) (s : State) : Type 0 where
  pub count : length words ≡ word_count w
  pub zero_word : slice_index words 0 ≡ 0
  pub highs : (c x : ℕ) → HasVertex s c x → first_word words c ≡ high_of w x + 1
  pub lows : (c : ℕ) → c < cell_count w → slice_index words (second_index c) ≡ low_word w (vertex_at s.vertices c)
  pub edges : (c : ℕ) (a : Arrow) → c < cell_count w → IsArrow (flat w).space a →
      slice_index words (arrow_index w c a) ≡ edge_word (target_at s.drawn c a)

-- the number whose path is that of the pair
abbrev pub mixed : WideCode → ℕ
mixed x = (x.high + 3 * x.low) % 2 ^ 64

-- the path of a pair: all cells in a round, from its home on; here the k-th of them, counted from 0
abbrev pub cell_on : WideWorldType → WideCode → ℕ → ℕ
cell_on w x k = flat_cell_on (flat w) (mixed x) k

-- the cell is the last of the pair's path
abbrev pub is_last : WideWorldType → WideCode → ℕ → Bool
is_last w x c = is_flat_last (flat w) (mixed x) c

-- the cell stands on the pair's path. Every cell before it has a first word, and a vertex too where its first word is that
-- of the pair
pub record IsPlaced (w : WideWorldType) (words : List ℕ) (s : State) (x : WideCode) (c : ℕ) : Type 0 where
  pub steps : ℕ
  pub short : steps < cell_count w
  pub at : c ≡ cell_on w x steps
  pub taken : (k : ℕ) → k < steps → first_word words (cell_on w x k) ≢ 0
  pub filled : (k : ℕ) → k < steps → first_word words (cell_on w x k) ≡ x.high + 1 → HasSome s (cell_on w x k)

-- the seat has seen this first word at the cell
abbrev pub HasSeen : List Seen → ℕ → ℕ → Type 0
HasSeen seen c n = Contains seen (record { cell = c; word = n })

-- the search for a pair passes the cell: it was seen with another half, or it has the vertex of another pair
abbrev pub IsPassed : WideWorldType → State → List Seen → WideCode → ℕ → Type 0
IsPassed w s seen x c = ((n : ℕ) × HasSeen seen c n × (n ≢ x.high + 1)) ⊎ ((y : ℕ) × HasVertex s c y × (y ≢ number w.space x))

-- the cell stands on the pair's path, and every cell before it is passed
pub record IsSearched (w : WideWorldType) (s : State) (seen : List Seen) (x : WideCode) (c : ℕ) : Type 0 where
  pub steps : ℕ
  pub short : steps < cell_count w
  pub at : c ≡ cell_on w x steps
  pub before : (k : ℕ) → k < steps → IsPassed w s seen x (cell_on w x k)

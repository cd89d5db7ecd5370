-- Where words stand in the shared table: word 0 counts debts, then comes a word for each cell, then a word for each
-- arrow of each cell.
use Rattle.std.specs.Prelude.{ℕ, ◌+◌, ◌-◌, ◌*◌, ◌/◌, ◌%◌, ◌^◌, ◌<◌, ◌≡◌, ◌≢◌, ◌==◌, Bool, List, length, slice_index, Option, Some, None}
use Rattle.crystal_cartan.specs.declared.types.Arrow.{Arrow}
use Rattle.tensor_words.specs.Operators.{IsArrow}
use Rattle.tensor_words.specs.Worlds.{WorldType}
use Rattle.graph_history.specs.History.{State, vertex_at, target_at, HasSome, HasVertex, IsTarget}
use Rattle.graph_history.specs.ArrowRows.{edge_place, edge_word}

-- how many words the table of a world has
abbrev pub word_count : WorldType → ℕ
word_count w = 1 + w.cells + w.cells * (2 * w.space.cartan.rank)

-- the word of a cell: 0 where it is empty, else its code and 1
abbrev pub code_word : Option ℕ → ℕ
code_word None = 0
code_word (Some x) = x + 1

-- the words are those of this state
pub record IsLaid (w : WorldType) (words : List ℕ) (s : State) : Type 0 where
  pub count : length words ≡ word_count w
  pub debts : slice_index words 0 ≡ s.debts
  pub cells : (c : ℕ) → c < w.cells → slice_index words (1 + c) ≡ code_word (vertex_at s.vertices c)
  pub edges : (c : ℕ) (a : Arrow) → c < w.cells → IsArrow w.space a →
      slice_index words (1 + w.cells + edge_place w.space.cartan.rank c a) ≡ edge_word (target_at s.drawn c a)

-- the cell at which the search for a code begins: the code is multiplied by the odd number next to 2^64 divided by the
-- golden ratio, and the upper half of the product's low 64 bits is taken
unfoldable pub home : ℕ → ℕ → ℕ
home cells x = (((x * 11400714819323198485) % 2 ^ 64) / 2 ^ 32) % cells

-- the path of a code: all cells in a round, from its home on; here the k-th of them, counted from 0
abbrev pub cell_on : WorldType → ℕ → ℕ → ℕ
cell_on w x k = (home w.cells x + k) % w.cells

-- the cell is the last of the code's path
abbrev pub is_last : WorldType → ℕ → ℕ → Bool
is_last w x c = c == cell_on w x (w.cells - 1)

-- the cell stands on the code's path, and every cell before it is taken
pub record IsPlaced (w : WorldType) (s : State) (c x : ℕ) : Type 0 where
  pub steps : ℕ
  pub short : steps < w.cells
  pub at : c ≡ cell_on w x steps
  pub before : (k : ℕ) → k < steps → HasSome s (cell_on w x k)

-- the cell stands on the code's path, and every cell before it is taken by another code
pub record IsSearched (w : WorldType) (s : State) (c x : ℕ) : Type 0 where
  pub steps : ℕ
  pub short : steps < w.cells
  pub at : c ≡ cell_on w x steps
  pub before : (k : ℕ) → k < steps → (y : ℕ) × HasVertex s (cell_on w x k) y × (y ≢ x)

-- the arrow leads from the vertex of the cell to this target: to zero, or to the vertex of a cell
abbrev pub LeadsTo : WorldType → State → ℕ → Arrow → Option ℕ → Type 0
LeadsTo w s c a t = (y : ℕ) × HasVertex s c y × IsTarget w s a y t

-- where the word of an arrow stands
abbrev pub arrow_index : WorldType → ℕ → Arrow → ℕ
arrow_index w c a = 1 + w.cells + edge_place w.space.cartan.rank c a

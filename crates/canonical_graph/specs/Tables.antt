-- How a finished graph keeps its arrows: one table for lowering and one for raising, with a row for each vertex in
-- ascending rank, and in it an entry for each index.
use Rattle.std.specs.Prelude.{ℕ, ◌+◌, ◌-◌, ◌*◌, ◌<◌, ◌≤◌, ◌≡◌, Bool, true, false, List, map, length, slice_index_or, sum_by, Option, Some, None}
use Rattle.std.specs.List.{range_with_len}
use Rattle.crystal_cartan.specs.declared.types.Arrow.{Arrow}
use Rattle.canonical_graph.specs.Graphs.{FinishedType, IsFinished, target_rank, arrows_from, arrow_count}

-- an entry is the rank to which the operator leads, or 2^32 - 1 where it gives zero
abbrev pub entry_of : Option ℕ → ℕ
entry_of None = 4294967295
entry_of (Some rank) = rank

-- the arrow f_i or e_i
abbrev pub arrow_to : Bool → ℕ → Arrow
arrow_to down i = record { down = down; index = i }

abbrev pub entry_at : FinishedType → ℕ → Bool → ℕ → ℕ
entry_at f rank down i = entry_of (target_rank f rank (arrow_to down i))

-- the entries of the first n indices at a vertex
abbrev pub rank_row : FinishedType → ℕ → Bool → ℕ → List ℕ
rank_row f rank down n = map (λ i. entry_at f rank down i) (range_with_len 1 n)

-- the list has n rows of r entries; `at k i` is the entry of the row k, from 0, at the index i
pub record HasRows {X : Type 0} (beyond : X) (at : ℕ → ℕ → X) (r n : ℕ) (entries : List X) : Type 0 where
  pub size : length entries ≡ n * r
  pub rows : (k i : ℕ) → k < n → 1 ≤ i → i ≤ r → slice_index_or entries (k * r + (i - 1)) beyond ≡ at k i

-- the table of one direction has the rows of the first n vertices
abbrev pub IsTable : FinishedType → Bool → ℕ → List ℕ → Type 0
IsTable f down n entries = HasRows 0 (λ rank i. entry_at f rank down i) f.space.cartan.rank n entries

-- the lowering half of the first n vertices: their rows, and the number of entries that lead somewhere
pub record AreLowered (f : FinishedType) (n : ℕ) (entries : List ℕ) (arrows : ℕ) : Type 0 where
  pub table : IsTable f true n entries
  pub counted : arrows ≡ sum_by (λ rank. arrows_from f rank) (range_with_len 0 n)

-- what is kept of a finished graph beside its space and its codes
pub record KeepsTables (f : FinishedType) (low high : List ℕ) (arrows : ℕ) : Type 0 where
  pub finished : IsFinished f
  pub lowered : IsTable f true (length f.codes) low
  pub raised : IsTable f false (length f.codes) high
  pub counted : arrows ≡ arrow_count f

-- Marked vertices: a mark for each rank.
use Rattle.std.specs.Prelude.{ℕ, ◌<◌, ◌↔◌, Bool, true, false, IsTrue, List, length, slice_index_or, slice_set, filter, Option, Some, None}
use Rattle.std.specs.List.{range_with_len}
use Rattle.canonical_graph.specs.Graphs.{FinishedType, code_at}
use Rattle.crystal_subsets.specs.DemazureSubsets.{IsLowered}

-- whether the vertex of this rank is marked
abbrev pub is_marked : List Bool → ℕ → Bool
is_marked marks rank = slice_index_or marks rank false

-- the marks with one more at the target of a vertex, where the vertex is marked
abbrev pub marked_on : Bool → Option ℕ → List Bool → List Bool
marked_on false target marks = marks
marked_on true None marks = marks
marked_on true (Some rank) marks = slice_set marks rank true

-- the vertex is f_i applied some number of times to a marked one
pub record ComesFrom (f : FinishedType) (i : ℕ) (marks : List Bool) (rank : ℕ) : Type 0 where
  pub from : ℕ
  pub below : from < length f.codes
  pub marked : IsTrue (is_marked marks from)
  pub lowered : IsLowered f.space i (code_at f from) (code_at f rank)

-- the new marks are just at the vertices that come from the old ones
abbrev pub AreMarkedFrom : FinishedType → ℕ → List Bool → List Bool → Type 0
AreMarkedFrom f i old new = (rank : ℕ) → rank < length f.codes → IsTrue (is_marked new rank) ↔ ComesFrom f i old rank

-- the ranks that are marked, ascending
abbrev pub marked_ranks : List Bool → List ℕ
marked_ranks marks = filter (is_marked marks) (range_with_len 0 (length marks))

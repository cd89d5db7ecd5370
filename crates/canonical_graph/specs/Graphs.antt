-- Finished graphs: a closed ascending list of codes, its vertices, with the operators as arrows between their ranks.
use Rattle.std.specs.Prelude.{ℕ, ◌^◌, ◌<◌, ◌≡◌, ◌==◌, true, List, length, slice_index, Option, Some, All, Contains, position, is_some, sum_by, count_by, option_and_then}
use Rattle.std.specs.List.{range_with_len}
use Rattle.std.specs.List.Sorted.{IsStrictlyIncreasing}
use Rattle.crystal_cartan.specs.declared.types.Arrow.{Arrow}
use Rattle.tensor_words.specs.Spaces.{SpaceType, IsSpace, size}
use Rattle.tensor_words.specs.Codes.{word_of}
use Rattle.tensor_words.specs.Operators.{IsArrow, op}

-- a finished graph, as contracts see it: its space, and the codes of its vertices; the rank of a vertex is its place
pub record FinishedType : Type 0 where
  pub space : SpaceType
  pub codes : List ℕ

-- the finished graph of these codes
abbrev pub finished_graph : SpaceType → List ℕ → FinishedType
finished_graph s codes = record { space = s; codes = codes }

-- what an operator makes of a listed code is zero or listed
abbrev pub IsClosedList : SpaceType → List ℕ → Type 0
IsClosedList s codes = (a : Arrow) (c d : ℕ) → Contains codes c → IsArrow s a → op s a c ≡ Some d → Contains codes d

-- what every finished graph keeps
pub record IsFinished (f : FinishedType) : Type 0 where
  pub space : IsSpace f.space
  pub ascending : IsStrictlyIncreasing f.codes
  pub below : All (λ c. c < size f.space) f.codes
  pub few : length f.codes < 2 ^ 32
  pub closed : IsClosedList f.space f.codes

-- the code of a vertex and its word, and the rank of a code
abbrev pub code_at : FinishedType → ℕ → ℕ
code_at f rank = slice_index f.codes rank

abbrev pub vertex_word : FinishedType → ℕ → List ℕ
vertex_word f rank = word_of f.space (code_at f rank)

abbrev pub rank_in : List ℕ → ℕ → Option ℕ
rank_in codes code = position (λ c. c == code) codes

-- the rank to which an operator leads from a vertex, or none where it gives zero
unfoldable pub target_rank : FinishedType → ℕ → Arrow → Option ℕ
target_rank f rank a = option_and_then (rank_in f.codes) (op f.space a (code_at f rank))

-- the arrow f_i
abbrev pub lowering : ℕ → Arrow
lowering i = record { down = true; index = i }

-- the number of lowering operators that do not give zero at a vertex, and of all such arrows of the graph
abbrev pub arrows_from : FinishedType → ℕ → ℕ
arrows_from f rank = count_by (λ i. is_some (target_rank f rank (lowering i))) (range_with_len 1 f.space.cartan.rank)

unfoldable pub arrow_count : FinishedType → ℕ
arrow_count f = sum_by (λ rank. arrows_from f rank) (range_with_len 0 (length f.codes))

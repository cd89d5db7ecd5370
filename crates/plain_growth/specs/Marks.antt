-- Which raising operators a growth need not follow: one that leads back to a code from which it was lowered.
use Rattle.std.specs.Prelude.{ℕ, ◌-◌, ◌<◌, ◌≡◌, ◌==◌, if◌then◌else◌, Bool, true, false, List, [], length, slice_index, slice_index_or, slice_set, Some, Contains}
use Rattle.crystal_cartan.specs.Types.{HasIndex}
use Rattle.tensor_words.specs.Spaces.{SpaceType}
use Rattle.tensor_words.specs.Operators.{op}
use Rattle.canonical_graph.specs.Tables.{arrow_to}

-- the code at this place is marked at an index less 1
abbrev pub IsMarked : List (List Bool) → ℕ → ℕ → Type 0
IsMarked marks k j = slice_index_or (slice_index_or marks k []) j false ≡ true

-- the code for which a note stands marked at an index less 1; the note 2^32 - 1 stands for none
abbrev pub marked_in : List (List Bool) → ℕ → ℕ → List (List Bool)
marked_in marks note j = if note == 4294967295 then marks else slice_set marks note (slice_set (slice_index_or marks note []) j true)

-- marks for so many codes, none of them new
pub record GrowsMarks (old new : List (List Bool)) (count : ℕ) : Type 0 where
  pub size : length new ≡ count
  pub only : (k j : ℕ) → IsMarked new k j → IsMarked old k j

-- what the raising operator of a marked index makes of a code is found
pub record AreMarks (s : SpaceType) (found : List ℕ) (marks : List (List Bool)) : Type 0 where
  pub size : length marks ≡ length found
  pub known : (k i c : ℕ) → k < length found → HasIndex s.cartan i → IsMarked marks k (i - 1) → op s (arrow_to false i) (slice_index found k) ≡ Some c → Contains found c

-- What a plain growth keeps.
use Rattle.std.specs.Prelude.{ℕ, ◌^◌, ◌<◌, ◌≤◌, ◌≡◌, ◌==◌, if◌then◌else◌, nat_eq, true, List, ◌++◌, map, length, slice_index, Option, Some, None, All, Contains, ◌⊎◌}
use Rattle.std.specs.List.{IsDistinct, range_with_len}
use Rattle.std.specs.List.Sorted.{IsStrictlyIncreasing}
use Rattle.crystal_cartan.specs.declared.types.Arrow.{Arrow}
use Rattle.tensor_words.specs.Spaces.{SpaceType, IsSpace, size}
use Rattle.tensor_words.specs.Operators.{IsArrow, op}
use Rattle.tensor_words.specs.Worlds.{WorldType}
use Rattle.tensor_words.specs.Reach.{IsReached, IsComponentList, Outnumber}
use Rattle.plain_growth.specs.declared.sorting.PlacedCode.{PlacedCode}
use Rattle.canonical_graph.specs.Graphs.{IsFinished, IsClosedList, finished_graph, rank_in}
use Rattle.canonical_graph.specs.Tables.{arrow_to, HasRows}

-- the new list begins with the old one, has the code, and has no other new code
pub record AddsCode (old : List ℕ) (code : ℕ) (new : List ℕ) : Type 0 where
  pub more : List ℕ
  pub is : new ≡ old ++ more
  pub there : Contains new code
  pub only : (c : ℕ) → Contains more c → c ≡ code

-- the same of what an operator gave, if it is not zero
pub record Follows (next : Option ℕ) (old new : List ℕ) : Type 0 where
  pub more : List ℕ
  pub is : new ≡ old ++ more
  pub there : (c : ℕ) → next ≡ Some c → Contains new c
  pub only : (c : ℕ) → Contains more c → next ≡ Some c

-- what the operators of the first n indices make of a code is in the list
abbrev pub IsFollowed : SpaceType → ℕ → ℕ → List ℕ → Type 0
IsFollowed s n code found = (a : Arrow) (c : ℕ) → IsArrow s a → a.index ≤ n → op s a code ≡ Some c → Contains found c

-- the second code is what an operator makes of the first
pub record IsNeighbour (s : SpaceType) (code c : ℕ) : Type 0 where
  pub arrow : Arrow
  pub fits : IsArrow s arrow
  pub leads : op s arrow code ≡ Some c
  pub below : c < size s

-- the new list begins with the old one, has what the operators of the first n indices make of the code, and has no
-- other new code
pub record Expands (s : SpaceType) (n code : ℕ) (old new : List ℕ) : Type 0 where
  pub more : List ℕ
  pub is : new ≡ old ++ more
  pub followed : IsFollowed s n code new
  pub only : (c : ℕ) → Contains more c → IsNeighbour s code c

-- a growth notes what a lowering operator makes of a code by the place at which that stands among those found, from 0, or by
-- 2^32 - 1 for zero; in a list with an element for each code that was found, a note stands for its element
abbrev pub noted_in : List ℕ → ℕ → Option ℕ
noted_in xs note = if note == 4294967295 then None else Some (slice_index xs note)

-- a note where so many codes are found
abbrev pub IsNote : ℕ → ℕ → Type 0
IsNote count note = (note ≡ 4294967295) ⊎ (note < count)

-- notes by this list of those found
abbrev pub AreNotes : List ℕ → List ℕ → Type 0
AreNotes found notes = All (IsNote (length found)) notes

-- what the lowering operators of the first n indices make of a code
abbrev pub next_row : SpaceType → ℕ → ℕ → List (Option ℕ)
next_row s code n = map (λ i. op s (arrow_to true i) code) (range_with_len 1 n)

-- the new notes, by the new list of those found, begin with what the old ones stood for, and go on with what the
-- lowering operators of the first n indices make of the code
pub record AddsNotes (s : SpaceType) (n code : ℕ) (old notes new later : List ℕ) : Type 0 where
  pub placed : AreNotes new later
  pub is : map (noted_in new) later ≡ map (noted_in old) notes ++ next_row s code n

-- the notes have the rows of the first n codes that were found
pub record HasNexts (s : SpaceType) (found : List ℕ) (n : ℕ) (notes : List ℕ) : Type 0 where
  pub placed : AreNotes found notes
  pub rows : HasRows None (λ k i. op s (arrow_to true i) (slice_index found k)) s.cartan.rank n (map (noted_in found) notes)

-- the codes of a list
abbrev pub codes_in : List PlacedCode → List ℕ
codes_in list = map (λ x. x.code) list

-- the code stands at its place among those found
pub record IsPlacedCode (found : List ℕ) (x : PlacedCode) : Type 0 where
  pub within : x.place < length found
  pub here : slice_index found x.place ≡ x.code

-- the ranks of those found among the codes
pub record AreRanks (codes found ranks : List ℕ) : Type 0 where
  pub size : length ranks ≡ length found
  pub rank : (k : ℕ) → k < length found → rank_in codes (slice_index found k) ≡ Some (slice_index ranks k)

-- the first k roots are found, and nothing but roots
pub record HasFirstRoots (roots : List ℕ) (k : ℕ) (found : List ℕ) : Type 0 where
  pub there : (j : ℕ) → j < k → Contains found (slice_index roots j)
  pub only : (c : ℕ) → Contains found c → Contains roots c

-- a growth between two steps: every root is found, nothing is found but reached words, and the first n of those
-- found are expanded
pub record IsFrontier (w : WorldType) (n : ℕ) (found : List ℕ) : Type 0 where
  pub within : n ≤ length found
  pub few : n ≤ w.cells
  pub below : (c : ℕ) → Contains found c → c < size w.space
  pub rooted : (c : ℕ) → Contains w.roots c → Contains found c
  pub sound : (c : ℕ) → Contains found c → IsReached w c
  pub followed : (k : ℕ) → k < n → IsFollowed w.space w.space.cartan.rank (slice_index found k) found

-- a growth that has ended: all that are found are expanded, and the notes are whole
pub record IsWholeGrowth (w : WorldType) (found notes : List ℕ) : Type 0 where
  pub frontier : IsFrontier w (length found) found
  pub distinct : IsDistinct nat_eq found
  pub lowered : HasNexts w.space found (length found) notes

-- what its graph is made from
pub record MakesGraph (s : SpaceType) (found notes : List ℕ) : Type 0 where
  pub space : IsSpace s
  pub below : (c : ℕ) → Contains found c → c < size s
  pub few : length found < 2 ^ 32
  pub closed : IsClosedList s found
  pub distinct : IsDistinct nat_eq found
  pub lowered : HasNexts s found (length found) notes

-- the codes are those found, ascending
pub record IsSortedFrom (found codes : List ℕ) : Type 0 where
  pub ascending : IsStrictlyIncreasing codes
  pub few : length codes ≤ length found
  pub from : (c : ℕ) → Contains codes c → Contains found c
  pub all : (c : ℕ) → Contains found c → Contains codes c

-- what a growth ends with where the cells suffice
pub record IsGrownList (w : WorldType) (codes : List ℕ) : Type 0 where
  pub finished : IsFinished (finished_graph w.space codes)
  pub listed : IsComponentList w codes
  pub fits : Outnumber w → ⊥

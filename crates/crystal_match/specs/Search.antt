-- What the search keeps.
use Rattle.std.specs.Prelude.{ℕ, ◌≡◌, ◌+◌, ◌*◌, ◌<◌, ◌≤◌, ◌⊎◌, Bool, true, false, List, [], ◌∷◌, ◌++◌, length, slice_index_or, Option, Some, None, Contains}
use Rattle.std.specs.List.{IsDistinct}
use Rattle.crystal_cartan.specs.declared.types.Arrow.{Arrow}
use Rattle.tensor_words.specs.Operators.{IsArrow, op}
use Rattle.tensor_words.specs.Reach.{IsPath}
use Rattle.crystal_match.specs.declared.search.PairOrigin.{PairOrigin}
use Rattle.crystal_match.specs.declared.search.Search.{Search}
use Rattle.crystal_match.specs.declared.search.SearchEnd.{SearchEnd}
use Rattle.crystal_match.specs.declared.search.SearchEnd.TheVariants.{Closed, Telling, TooMany}
use Rattle.crystal_match.specs.Relabelling.{relabelled}
use Rattle.crystal_match.specs.Listings.{pair_at, pair_eq, no_arrow}
use Rattle.crystal_match.specs.Telling.{PointedType, first_end, second_end, AreEndsApart}
use Rattle.signature_rule.specs.ArrowOrder.{arrow_place}

-- a pair is entered into a list: as a new one behind the others, or it was there already
abbrev pub IsEntered : ℕ × ℕ → List (ℕ × ℕ) → Bool → List (ℕ × ℕ) → Type 0
IsEntered pair old true new = new ≡ old ++ pair ∷ []
IsEntered pair old false new = (new ≡ old) × Contains old pair

-- the list of arrows that is kept for a pair that was found
abbrev pub walk_at : List (List Arrow) → ℕ → List Arrow
walk_at walks j = slice_index_or walks j []

abbrev pub origin_at : List PairOrigin → ℕ → PairOrigin
origin_at origins j = slice_index_or origins j (record { from = 0; arrow = no_arrow })

-- the lists of arrows that are kept by origins: none for the first pair, and for each later one the list kept for the
-- pair that it comes from, and then its arrow
pub record AreWalks (origins : List PairOrigin) (walks : List (List Arrow)) : Type 0 where
  pub count : length walks ≡ length origins + 1
  pub first : walk_at walks 0 ≡ []
  pub from : (j : ℕ) → j < length origins → (origin_at origins j).from ≤ j
  pub next : (j : ℕ) → j < length origins → walk_at walks (j + 1) ≡ walk_at walks (origin_at origins j).from ++ (origin_at origins j).arrow ∷ []

-- lists of arrows as numbers: the places of their arrows read to the base of twice the rank, behind a first digit k. With
-- the first digit 1 the shorter list has the lesser number, and of two lists of one length the lexicographically lesser one
abbrev pub number_from : ℕ → ℕ → List Arrow → ℕ
number_from rank k [] = k
number_from rank k (a ∷ path) = number_from rank (k * (rank + rank) + arrow_place rank a) path

abbrev pub number : PointedType → List Arrow → ℕ
number m path = number_from m.space.cartan.rank 1 path

-- the number of the list that is kept for a pair, and then an arrow with this place
abbrev pub step_number : PointedType → List (List Arrow) → ℕ → ℕ → ℕ
step_number m walks j place = number m (walk_at walks j) * (m.space.cartan.rank + m.space.cartan.rank) + place

-- a list of arrows leads from the two marks to a pair
pub record Leads (m : PointedType) (path : List Arrow) (pair : ℕ × ℕ) : Type 0 where
  pub arrows : IsPath m.space path
  pub first : first_end m path ≡ Some pair.0
  pub second : second_end m path ≡ Some pair.1

-- two ends are the codes of a pair that was found, whose kept list has a number up to n
pub record IsFoundBy (m : PointedType) (found : List (ℕ × ℕ)) (walks : List (List Arrow)) (n : ℕ) (first second : Option ℕ) : Type 0 where
  pub place : ℕ
  pub within : place < length found
  pub is_first : first ≡ Some (pair_at found place).0
  pub is_second : second ≡ Some (pair_at found place).1
  pub early : number m (walk_at walks place) ≤ n

-- neither end is a word, or both are those of a pair that was found
abbrev pub IsFollowed : PointedType → List (ℕ × ℕ) → List (List Arrow) → ℕ → Option ℕ → Option ℕ → Type 0
IsFollowed m found walks n first second = ((first ≡ None) × (second ≡ None)) ⊎ IsFoundBy m found walks n first second

-- the search has followed the arrows of all pairs before `at`, and of the pair at `at` the first n
abbrev pub IsTried : ℕ → ℕ → ℕ → ℕ → Type 0
IsTried n at j place = (j < at) ⊎ ((j ≡ at) × (place < n))

-- a search that has found no list of arrows that tells the marks apart
pub record IsSearch (m : PointedType) (n at end : ℕ) (found : List (ℕ × ℕ)) (origins : List PairOrigin) : Type 0 where
  pub walks : List (List Arrow)
  pub are_walks : AreWalks origins walks
  pub count : length found ≡ length origins + 1
  pub begun : at ≤ end
  pub within : end ≤ length found
  pub marks : pair_at found 0 ≡ (m.first, m.second)
  pub leads : (j : ℕ) → j < length found → Leads m (walk_at walks j) (pair_at found j)
  pub never_apart : (j : ℕ) → j < length found → AreEndsApart m (Some (pair_at found j).0) (Some (pair_at found j).1) → ⊥
  -- the kept lists rise, and all come before the next one to be tried
  pub rising : (i j : ℕ) → i < j → j < length found → number m (walk_at walks i) < number m (walk_at walks j)
  pub early : (j : ℕ) → at < length found → j < length found → number m (walk_at walks j) < step_number m walks at n
  pub followed :
      (j : ℕ) (a : Arrow) → j < length found → IsArrow m.space a → IsTried n at j (arrow_place m.space.cartan.rank a) →
      IsFollowed m found walks (step_number m walks j (arrow_place m.space.cartan.rank a)) (op m.space a (pair_at found j).0) (op m.space (relabelled m.relabel a) (pair_at found j).1)
  -- the pairs from `at` to `end` are those that are first reached by lists of one length; those before are reached by
  -- shorter ones, those behind by lists with one arrow more
  pub level : ℕ
  pub shorter : (j : ℕ) → j < end → length (walk_at walks j) < level
  pub same : (j : ℕ) → at ≤ j → j < end → length (walk_at walks j) + 1 ≡ level
  pub longer : (j : ℕ) → end ≤ j → j < length found → length (walk_at walks j) ≡ level

abbrev pub IsSearching : PointedType → ℕ → Search → Type 0
IsSearching m n s = IsSearch m n s.at s.end s.found s.origins.items

-- what following an arrow from the pair at `at` to these ends makes of the lists
abbrev pub FollowsPair : ℕ → Arrow → Option ℕ → Option ℕ → List (ℕ × ℕ) → List PairOrigin → List (ℕ × ℕ) → List PairOrigin → Type 0
FollowsPair at a (Some x) (Some y) found origins new later =
    ((new ≡ found) × (later ≡ origins) × Contains found (x, y))
    ⊎ ((new ≡ found ++ (x, y) ∷ []) × (later ≡ origins ++ (record { from = at; arrow = a }) ∷ []))
FollowsPair at a (Some x) None found origins new later = (new ≡ found) × (later ≡ origins)
FollowsPair at a None second found origins new later = (new ≡ found) × (later ≡ origins)

-- the arrow tells the marks apart behind the list that is kept for the pair at `at`, and nothing before it does
pub record IsTelling (m : PointedType) (a : Arrow) (s : Search) : Type 0 where
  pub search : IsSearching m (arrow_place m.space.cartan.rank a) s
  pub at : s.at < s.end
  pub arrow : IsArrow m.space a
  pub apart : AreEndsApart m (op m.space a (pair_at s.found s.at).0) (op m.space (relabelled m.relabel a) (pair_at s.found s.at).1)

-- how a search ends
abbrev pub IsSearchEnded : PointedType → ℕ → SearchEnd → Search → Type 0
IsSearchEnded m limit Closed s = IsSearching m 0 s × (s.at ≡ length s.found) × (length s.found ≤ limit) × IsDistinct pair_eq s.found
IsSearchEnded m limit (Telling a) s = IsTelling m a s × (s.end ≤ limit)
IsSearchEnded m limit TooMany s = IsSearching m 0 s × (s.at ≡ s.end) × (s.at < length s.found) × (limit < length s.found) × IsDistinct pair_eq s.found

-- some lists of arrows are kept by the origins
pub record HasWalks (origins : List PairOrigin) : Type 0 where
  pub walks : List (List Arrow)
  pub are : AreWalks origins walks

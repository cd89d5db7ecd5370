-- Two marked words, and the lists of arrows that tell them apart.
use Rattle.std.specs.Prelude.{ℕ, ◌≡◌, ◌≢◌, ◌<◌, ◌≤◌, ◌⊎◌, ⊤, IsTrue, List, map, length, Option, Some, None}
use Rattle.crystal_cartan.specs.declared.types.Arrow.{Arrow}
use Rattle.tensor_words.specs.Spaces.{SpaceType, IsSpace, size}
use Rattle.tensor_words.specs.Codes.{is_before}
use Rattle.tensor_words.specs.Reach.{IsPath, walk}
use Rattle.signature_rule.specs.ArrowOrder.{arrow_place}
use Rattle.crystal_match.specs.Relabelling.{RelabelType, relabelled}

-- two marked words of a space, by their codes, and how arrows are relabelled for the second
pub record PointedType : Type 0 where
  pub space : SpaceType
  pub first : ℕ
  pub second : ℕ
  pub relabel : RelabelType

abbrev pub pointed : SpaceType → ℕ → ℕ → RelabelType → PointedType
pointed s a b relabel = record { space = s; first = a; second = b; relabel = relabel }

-- both codes are words', and the relabelling is of the type
pub record IsPointed (m : PointedType) : Type 0 where
  pub space : IsSpace m.space
  pub first : m.first < size m.space
  pub second : m.second < size m.space
  pub relabel : m.relabel.cartan ≡ m.space.cartan

-- where a list of arrows leads from the first mark, and the relabelled list from the second: a code, or none
abbrev pub first_end : PointedType → List Arrow → Option ℕ
first_end m path = walk m.space path m.first

abbrev pub second_end : PointedType → List Arrow → Option ℕ
second_end m path = walk m.space (map (relabelled m.relabel) path) m.second

-- exactly one of the two ends is a word; or both are words and exactly one is its start
abbrev pub AreEndsApart : PointedType → Option ℕ → Option ℕ → Type 0
AreEndsApart m None None = ⊥
AreEndsApart m (Some x) None = ⊤
AreEndsApart m None (Some y) = ⊤
AreEndsApart m (Some x) (Some y) = ((x ≡ m.first) × (y ≢ m.second)) ⊎ ((x ≢ m.first) × (y ≡ m.second))

-- a list of arrows of the type tells the two marks apart
pub record Tells (m : PointedType) (path : List Arrow) : Type 0 where
  pub arrows : IsPath m.space path
  pub apart : AreEndsApart m (first_end m path) (second_end m path)

-- the places of arrows in the order f_1, .., f_r, e_1, .., e_r
abbrev pub arrow_places : PointedType → List Arrow → List ℕ
arrow_places m path = map (arrow_place m.space.cartan.rank) path

-- the first list that tells the marks apart: the shortest, and among the shortest the lexicographically least
pub record IsFirstTelling (m : PointedType) (path : List Arrow) : Type 0 where
  pub tells : Tells m path
  pub shortest : (other : List Arrow) → Tells m other → length path ≤ length other
  pub least :
      (other : List Arrow) → Tells m other → length other ≡ length path → IsTrue (is_before (arrow_places m other) (arrow_places m path)) → ⊥

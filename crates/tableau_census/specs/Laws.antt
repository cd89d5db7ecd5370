-- Laws of semistandard readings in type A (Bump and Schilling, Crystal Bases, 2017, chapter 3).
use Rattle.std.specs.Prelude.{ℕ, ◌≡◌, ◌≤◌, ◌<◌, ◌↔◌, List, length, slice_index, Some}
use Rattle.crystal_cartan.specs.declared.types.Kind.TheVariants.{A}
use Rattle.crystal_cartan.specs.declared.types.Arrow.{Arrow}
use Rattle.tensor_words.specs.declared.spaces.Order.TheVariants.{Standard}
use Rattle.tensor_words.specs.Codes.{IsWord}
use Rattle.tensor_words.specs.Operators.{IsArrow, IsTop, acted}
use Rattle.tensor_words.specs.Reach.{IsComponentList}
use Rattle.tableau_reading.specs.Shapes.{ShapeType, IsShape, shape_space, box_count}
use Rattle.tableau_reading.specs.Readings.{top_word}
use Rattle.tableau_reading.specs.Fillings.{FillingType, IsFilling, filling_word}
use Rattle.tableau_census.specs.Components.{shape_world}
use Rattle.tableau_census.specs.Semistandard.{IsSemistandardFilling, IsSemistandard, IsCensus}
use Rattle.tableau_census.specs.Listing.{IsBounded}

-- a shape of type A, its words in the standard order
pub record IsClassicalShape (s : ShapeType) : Type 0 where
  pub shape : IsShape s
  pub kind : s.cartan.kind ≡ A
  pub order : s.order ≡ Standard

-- a filling is semistandard exactly where the digits of its reading are
abbrev pub ReadingsAreOfFillings : Type 0
ReadingsAreOfFillings =
    (f : FillingType) → IsFilling f → f.shape.cartan.kind ≡ A → IsSemistandardFilling f ↔ IsSemistandard f.shape (filling_word f)

-- what an operator makes of a semistandard reading is zero or a semistandard reading
abbrev pub OperatorsKeepSemistandard : Type 0
OperatorsKeepSemistandard =
    (s : ShapeType) (a : Arrow) (v w : List ℕ) → IsClassicalShape s → IsArrow (shape_space s) a → IsWord (shape_space s) w → IsSemistandard s w
    → acted (shape_space s) a w ≡ Some v → IsSemistandard s v

-- a semistandard reading with every eps zero is the top word
abbrev pub OnlyTopIsHighest : Type 0
OnlyTopIsHighest =
    (s : ShapeType) (w : List ℕ) → IsClassicalShape s → IsWord (shape_space s) w → IsSemistandard s w → IsTop (shape_space s) w → w ≡ top_word s

-- there is at most one census
abbrev pub CensusIsUnique : Type 0
CensusIsUnique = (s : ShapeType) (xs ys : List ℕ) → IsCensus s xs → IsCensus s ys → xs ≡ ys

-- a list of codes is the census of a shape exactly where it is the component list of the shape's top word
abbrev pub CensusIsComponent : Type 0
CensusIsComponent =
    (s : ShapeType) (cells : ℕ) (codes : List ℕ) → IsClassicalShape s → IsCensus s codes ↔ IsComponentList (shape_world s cells) codes

-- the word begins, up to the place k, like a semistandard reading
pub record IsBeginning (s : ShapeType) (k : ℕ) (w : List ℕ) : Type 0 where
  pub word : List ℕ
  pub lawful : IsWord (shape_space s) word
  pub semistandard : IsSemistandard s word
  pub same : (j : ℕ) → j < k → slice_index word j ≡ slice_index w j

-- every beginning whose digits are within their bounds is that of a semistandard reading, so that the listing, which
-- makes only such beginnings, makes none in vain
abbrev pub BeginningsAreCompleted : Type 0
BeginningsAreCompleted =
    (s : ShapeType) (k : ℕ) (w : List ℕ) → IsClassicalShape s → length w ≡ box_count s → k ≤ box_count s
    → ((j : ℕ) → j < k → IsBounded s w j) → IsBeginning s k w

-- What a census, and the listing of a part of it, come to.
use Rattle.std.specs.Prelude.{ℕ, ◌+◌, ◌≡◌, ◌≤◌, ◌<◌, ⊤, List, ◌++◌, length, All, Result, Ok, Err}
use Rattle.crystal_cartan.specs.declared.types.Kind.TheVariants.{A}
use Rattle.tensor_words.specs.Spaces.{size}
use Rattle.tensor_words.specs.Reach.{IsComponentList}
use Rattle.tableau_reading.specs.Shapes.{ShapeType, shape_space}
use Rattle.tableau_census.specs.declared.counting.CensusFault.{CensusFault}
use Rattle.tableau_census.specs.declared.counting.CensusFault.TheVariants.{NotTypeA, TooMany, NoMemory}
use Rattle.tableau_census.specs.Semistandard.{IsCensus}
use Rattle.tableau_census.specs.Components.{shape_world}

-- the list of a shape of type A, of at most as many codes as the limit: its census, and, whatever the number of cells,
-- the component list of its top word; each code is that of a word
pub record IsListed (s : ShapeType) (limit : ℕ) (codes : List ℕ) : Type 0 where
  pub kind : s.cartan.kind ≡ A
  pub census : IsCensus s codes
  pub component : (cells : ℕ) → IsComponentList (shape_world s cells) codes
  pub words : All (λ c. c < size (shape_space s)) codes
  pub few : length codes ≤ limit

-- the census of a shape of type A has more codes than the limit
pub record IsTooLarge (s : ShapeType) (limit : ℕ) : Type 0 where
  pub kind : s.cartan.kind ≡ A
  pub codes : List ℕ
  pub census : IsCensus s codes
  pub many : limit < length codes

-- the list of a shape; or exactly for another type than A `NotTypeA`; or for a shape of type A `TooMany` where the
-- census has more codes than the limit
abbrev pub IsCounted : ShapeType → ℕ → Result (List ℕ) CensusFault → Type 0
IsCounted s limit (Ok codes) = IsListed s limit codes
IsCounted s limit (Err NotTypeA) = s.cartan.kind ≡ A → ⊥
IsCounted s limit (Err TooMany) = IsTooLarge s limit
IsCounted s limit (Err NoMemory) = s.cartan.kind ≡ A

-- codes are added to a list, or there are too many for the limit
abbrev pub IsCompleted : List ℕ → List ℕ → ℕ → List ℕ → Result ⊤ CensusFault → Type 0
IsCompleted old codes limit now (Ok done) = (now ≡ old ++ codes) × (length now ≤ limit)
IsCompleted old codes limit now (Err NotTypeA) = ⊥
IsCompleted old codes limit now (Err TooMany) = limit < length old + length codes
IsCompleted old codes limit now (Err NoMemory) = ⊤

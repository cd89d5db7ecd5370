-- What an expansion of a cell tells, and one of several cells.
use Rattle.std.specs.Prelude.{ℕ, ◌*◌, ◌≡◌, Bool, true, false, ⊤, List, [], ◌∷◌, ◌++◌, Some, None, All, Result, Ok, Err, not, nat_eq, length, filter, Option, Contains}
use Rattle.crystal_cartan.specs.declared.types.Arrow.{Arrow}
use Rattle.tensor_words.specs.Operators.{IsArrow, op}
use Rattle.tensor_words.specs.Spaces.{SpaceType}
use Rattle.tensor_words.specs.Worlds.{WorldType}
use Rattle.graph_history.specs.declared.event.Origin.TheVariants.{By}
use Rattle.graph_history.specs.declared.event.Act.{Act}
use Rattle.graph_history.specs.declared.event.Act.TheVariants.{Added, Spent, Settled}
use Rattle.graph_history.specs.declared.event.Event.{Event}
use Rattle.graph_history.specs.History.{state_of, HasVertex, IsDrawn, IsWhole}
use Rattle.graph_history.specs.Desks.{Standing, Goes, added_cells}
use Rattle.crystal_growers.specs.declared.expansion.Spent.{Spent as SpentAnswer}
use Rattle.std.specs.Set.{is_member}
use Rattle.crystal_growers.specs.GrowthEvents.{Grew}

-- an act of an expansion of the cell c, whose code is y: what is put in comes by an arrow of the cell, and a word that
-- finds no cell is an operator's at y
abbrev pub IsGrowthAct : SpaceType → ℕ → ℕ → Act → Type 0
IsGrowthAct s c y (Added d x o) = (a : Arrow) × (o ≡ By c a)
IsGrowthAct s c y (Spent x) = (a : Arrow) × IsArrow s a × (op s a y ≡ Some x)
IsGrowthAct s c y _ = ⊤

-- the acts by which arrows of the cell c, whose code is y, were drawn, with at most so many places of the room
pub record Expanding {Bond : Type 0} (old new : Standing Bond) (c y places : ℕ) (acts : List Act) : Type 0 where
  pub goes : Goes old new places acts
  pub growth : All (IsGrowthAct old.world.space c y) acts
  pub unpaid : new.unpaid ≡ old.unpaid ++ added_cells acts

-- a debt that was owed for a word that found no cell is taken back
abbrev pub taken_back : Bool → List Act
taken_back true = Settled None ∷ []
taken_back false = []

-- the acts end where the code x found no cell
pub record EndsSpent (acts : List Act) (x : ℕ) : Type 0 where
  pub before : List Act
  pub owed : Bool
  pub is : acts ≡ before ++ Spent x ∷ taken_back owed

-- the arrow of the cell is drawn; or its operator's word found no cell
abbrev pub ArrowEnded : List Event → ℕ → Arrow → List Act → Result Unit SpentAnswer → Type 0
ArrowEnded h c a acts (Ok done) = IsDrawn (state_of h) c a
ArrowEnded h c a acts (Err e) = EndsSpent acts e.code

-- what the drawing of one arrow of the cell c tells, y being the code there
pub record ArrowDrawn {Bond : Type 0} (old new : Standing Bond) (c y : ℕ) (a : Arrow) (answer : Result Unit SpentAnswer) : Type 0 where
  pub acts : List Act
  pub run : Expanding old new c y 1 acts
  pub ended : ArrowEnded new.front c a acts answer

-- all arrows of the cell are drawn; or some operator's word found no cell
abbrev pub Ended : WorldType → List Event → ℕ → List Act → Result Unit SpentAnswer → Type 0
Ended w h c acts (Ok done) = IsWhole w (state_of h) c
Ended w h c acts (Err e) = EndsSpent acts e.code

-- what `expand` tells
pub record Expanded {Bond : Type 0} (old new : Standing Bond) (c : ℕ) (answer : Result Unit SpentAnswer) : Type 0 where
  pub code : ℕ
  pub there : HasVertex (state_of old.front) c code
  pub acts : List Act
  pub run : Expanding old new c code (2 * old.world.space.cartan.rank) acts
  pub ended : Ended old.world new.front c acts answer

-- all arrows of each of these cells are drawn
abbrev pub AreWhole : WorldType → List Event → List ℕ → Type 0
AreWhole w h cells = (c : ℕ) → Contains cells c → IsWhole w (state_of h) c

-- either all was drawn, or the word with some code found no cell
abbrev pub HasEnded : Type 0 → (ℕ → Type 0) → Option ℕ → Type 0
HasEnded done spent None = done
HasEnded done spent (Some x) = spent x

-- what is left of a list without these cells
abbrev pub rest_of : List ℕ → List ℕ → List ℕ
rest_of cells list = filter (λ c. not (is_member nat_eq cells c)) list

-- where all was drawn, what is unpaid now: what is left of the unpaid cells before, and then the added ones
abbrev pub IsPaid : List ℕ → List ℕ → List ℕ → Option ℕ → Type 0
IsPaid left added now None = now ≡ left ++ added
IsPaid left added now (Some x) = ⊤

-- all arrows of these cells were drawn, one cell after another, and each was paid for as soon as it was whole; or some
-- word found no cell
pub record Expansions {Bond : Type 0} (old new : Standing Bond) (cells : List ℕ) (full : Option ℕ) : Type 0 where
  pub acts : List Act
  pub goes : Goes old new (length cells * (2 * old.world.space.cartan.rank)) acts
  pub grew : Grew old.world old.caller old.front new.front
  pub paid : IsPaid (rest_of cells old.unpaid) (added_cells acts) new.unpaid full
  pub ended : HasEnded (AreWhole old.world new.front cells) (λ x. Contains acts (Spent x)) full

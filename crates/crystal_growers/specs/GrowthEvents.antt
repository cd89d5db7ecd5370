-- The events of a growth.
use Rattle.std.specs.Prelude.{ℕ, ◌≡◌, ⊤, List, [], ◌∷◌, ◌++◌}
use Rattle.crystal_cartan.specs.declared.types.Arrow.{Arrow}
use Rattle.tensor_words.specs.Worlds.{WorldType}
use Rattle.graph_history.specs.declared.event.Origin.TheVariants.{By}
use Rattle.graph_history.specs.declared.event.Act.{Act}
use Rattle.graph_history.specs.declared.event.Act.TheVariants.{Added, Spent}
use Rattle.graph_history.specs.declared.event.Event.{Event}
use Rattle.graph_history.specs.History.{State, after, state_of, IsOrigin}

-- an act of a growth, in the state where it is done: what is put in comes by an arrow, and a word that finds no cell is
-- an operator's at a vertex there
abbrev pub IsGrowing : WorldType → State → Act → Type 0
IsGrowing w s (Added c x o) = (d : ℕ) × (a : Arrow) × (o ≡ By d a)
IsGrowing w s (Spent x) = (c : ℕ) × (a : Arrow) × IsOrigin w s x (By c a)
IsGrowing w s _ = ⊤

-- each of these events that is the caller's is one of a growth, from a state on
abbrev pub GrowsFrom : WorldType → ℕ → State → List Event → Type 0
GrowsFrom w n s [] = ⊤
GrowsFrom w n s (e ∷ es) = (e.caller ≡ n → IsGrowing w s e.act) × GrowsFrom w n (after s e.act) es

-- a front went on, and what the caller did since is growth
pub record Grew (w : WorldType) (n : ℕ) (old new : List Event) : Type 0 where
  pub more : List Event
  pub is : new ≡ old ++ more
  pub growth : GrowsFrom w n (state_of old) more

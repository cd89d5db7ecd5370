-- How a run comes to its end.
use Rattle.std.specs.Prelude.{ℕ, ◌*◌, ◌^◌, ◌≤◌, ◌≡◌, Bool, true, false, List, Option, Contains}
use Rattle.canonical_graph.specs.Graphs.{FinishedType}
use Rattle.tensor_words.specs.Worlds.{WorldType}
use Rattle.graph_history.specs.declared.event.Act.{Act}
use Rattle.graph_history.specs.Views.{Kept}
use Rattle.graph_history.specs.History.{state_of, HasCode}
use Rattle.graph_history.specs.Laws.{HasRoots}
use Rattle.graph_rule.specs.Rule.{whole, IsPrefix, IsKnown}
use Rattle.graph_rule.specs.Values.{GraphValue, SeatValue, Belongs}
use Rattle.shared_desk.specs.SharedDesks.{Worked}
use Rattle.crystal_growers.specs.declared.growth.Grown.{Grown}
use Rattle.crystal_growers.specs.declared.growth.Grown.TheVariants.{Closed, Full}
use Rattle.graph_runs.specs.Runs.{HasSpent, EndsRun}

-- a seat that has the whole stake may end a run
pub record CanEnd (g : GraphValue) (s : SeatValue) (growers : ℕ) : Type 0 where
  pub belongs : Belongs s g
  pub some : 1 ≤ growers
  pub few : growers ≤ 16
  pub stake : s.view.stake ≡ whole
  pub numbers : 2 ^ 21 * growers ≤ s.view.left
  pub pledge : s.view.dues.pledge ≡ 0

-- what a growth left: just these cells are unpaid, or some word found no cell
abbrev pub IsLeft : SeatValue → List ℕ → Grown → Type 0
IsLeft s cells Closed = s.view.dues.unpaid ≡ cells
IsLeft s cells (Full x) = HasSpent s.view.front

-- roots were put in, and their new cells were noted behind those before
pub record IsEntering (old new : SeatValue) (before cells roots : List ℕ) : Type 0 where
  pub acts : List Act
  pub worked : Worked old new acts
  pub unpaid : old.view.dues.unpaid ≡ before → new.view.dues.unpaid ≡ cells
  pub there : (x : ℕ) → Contains roots x → HasCode (state_of new.view.front) x

-- each root is a vertex, or some word found no cell
abbrev pub AllThere : WorldType → SeatValue → Bool → Type 0
AllThere w s true = HasRoots w (state_of s.view.front)
AllThere w s false = HasSpent s.view.front

-- the missing roots were put in
pub record HasEnteredRoots (w : WorldType) (old new : SeatValue) (before cells : List ℕ) (all : Bool) : Type 0 where
  pub acts : List Act
  pub worked : Worked old new acts
  pub unpaid : all ≡ true → old.view.dues.unpaid ≡ before → new.view.dues.unpaid ≡ cells
  pub there : AllThere w new all

-- the run is over: the seat still has the whole stake and its number, and keeps what it kept
pub record IsOver (g : GraphValue) (old new : SeatValue) (finished : Option FinishedType) : Type 0 where
  pub belongs : Belongs new g
  pub number : new.view.number ≡ old.view.number
  pub stake : new.view.stake ≡ whole
  pub front : IsPrefix old.view.front new.view.front
  pub kept : (m : Kept) → Contains old.view.kept m → Contains new.view.kept m
  pub known : IsKnown new.view
  pub ends : EndsRun g.world new.view.front finished

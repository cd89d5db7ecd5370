-- A search on its way along the path of a code.
use Rattle.std.specs.Prelude.{ℕ, ◌≡◌, Bool, true, false, [], ◌∷◌, Option, Some, None}
use Rattle.graph_history.specs.declared.event.Origin.{Origin}
use Rattle.graph_history.specs.declared.event.Act.TheVariants.{Added as AddedAct, Met, Spent}
use Rattle.graph_history.specs.declared.answer.Added.{Added}
use Rattle.graph_history.specs.declared.answer.Added.TheVariants.{New, Old, Full}
use Rattle.graph_history.specs.Views.{View}
use Rattle.graph_history.specs.History.{state_of}
use Rattle.graph_rule.specs.Layout.{IsSearched}
use Rattle.graph_rule.specs.Told.{Advances, Watched, with_cell}
use Rattle.graph_rule.specs.Values.{SeatValue}
use Rattle.table_calls.specs.declared.entries.Probe.{Probe}
use Rattle.table_calls.specs.declared.entries.Probe.TheVariants.{Found, Empty, AllTaken}

-- what a look at the one cell c tells: the code was met there, or it was not, with no event
abbrev pub Confirmed : View → View → ℕ → ℕ → Bool → Type 0
Confirmed v w c x true = Advances v w (Met c x ∷ []) v.dues
Confirmed v w c x false = Watched v w

-- the cells of the path before the k-th have other codes, and the cell is the k-th
pub record IsAt (w : View) (x k c : ℕ) : Type 0 where
  pub searched : IsSearched w.world (state_of w.front) c x
  pub step : searched.steps ≡ k

-- the search of one call so far: it is at the k-th cell, and there was no event yet
pub record Searching (first now : SeatValue) (x k c : ℕ) : Type 0 where
  pub table : now.table ≡ first.table
  pub watched : Watched first.view now.view
  pub at : IsAt now.view x k c

-- what a probe tells: the code was met or every cell is taken, by one event; or there was an empty cell, with no event
abbrev pub Probed : View → View → ℕ → Probe → Type 0
Probed v w x (Found c) = Advances v w (Met c x ∷ []) v.dues
Probed v w x AllTaken = Advances v w (Spent x ∷ []) v.dues
Probed v w x (Empty c k) = Watched v w × IsAt w x k c

-- what a look along a part of the path tells, behind which comes the k-th cell
abbrev pub Looked : SeatValue → SeatValue → ℕ → ℕ → ℕ → Option Probe → Type 0
Looked first now x k c None = Searching first now x k c
Looked first now x k c (Some probe) = Probed first.view now.view x probe

-- what the entry of a code tells for which a debt is pledged
abbrev pub Claimed : View → View → ℕ → Origin → Added → Type 0
Claimed v w x o (New c) = Advances v w (AddedAct c x o ∷ []) (with_cell c v.dues)
Claimed v w x o (Old c) = Advances v w (Met c x ∷ []) v.dues
Claimed v w x o Full = Advances v w (Spent x ∷ []) v.dues

-- A search on its way along the path of a pair.
use Rattle.std.specs.Prelude.{ℕ, ◌<◌, ◌≡◌, Bool, false, List, [], ◌∷◌, ◌++◌, None}
use Rattle.graph_history.specs.declared.event.Event.{Event}
use Rattle.graph_history.specs.declared.event.Origin.{Origin}
use Rattle.graph_history.specs.declared.event.Act.TheVariants.{Added as AddedAct, Met, Missed, Spent}
use Rattle.graph_history.specs.History.{state_of, caller_of}
use Rattle.shared_seats.specs.Seats.{calls}
use Rattle.wide_words.specs.declared.spaces.WideCode.{WideCode}
use Rattle.wide_words.specs.WideSpaces.{IsWide, number}
use Rattle.wide_rule.specs.declared.dues.WideDues.{WideDues}
use Rattle.wide_rule.specs.Layout.{cell_count, is_last, HasSeen, IsPassed, IsSearched}
use Rattle.wide_rule.specs.Rule.{WideView, whole}
use Rattle.wide_rule.specs.Values.{WideGraphValue, WideSeatValue, Belongs}
use Rattle.wide_graph.specs.declared.entries.Tried.{Tried}
use Rattle.wide_graph.specs.declared.entries.Tried.TheVariants.{Added, Met as TriedMet, Spent as TriedSpent, Passed}
use Rattle.wide_graph.specs.declared.look_ups.Sought.{Sought}
use Rattle.wide_graph.specs.declared.look_ups.Sought.TheVariants.{Found, Absent, Passed as SoughtPassed}
use Rattle.wide_graph.specs.Entries.{Ends}

-- steps without an event: the front took in what others did, no more is owed, and what was seen stays
pub record Looked (v w : WideView) : Type 0 where
  pub between : List Event
  pub dues : WideDues
  pub is : w ≡ record v { front = v.front ++ between; dues = dues }
  pub owed : dues.owed ≡ v.dues.owed
  pub seen : (c n : ℕ) → HasSeen v.dues.seen c n → HasSeen dues.seen c n
  pub quiet : calls caller_of between v.number ≡ []
  pub alone : v.stake ≡ whole → between ≡ []

-- the cell was passed, with no event and with no cell pending
pub record Passing (v w : WideView) (x : WideCode) (c : ℕ) : Type 0 where
  pub looked : Looked v w
  pub idle : w.dues.pending ≡ None
  pub passed : IsPassed w.world (state_of w.front) w.dues.seen x c

-- a seat of the graph may look for the pair at the cell, up to which it is searched
pub record Probing (g : WideGraphValue) (s : WideSeatValue) (x : WideCode) (c : ℕ) (last : Bool) : Type 0 where
  pub belongs : Belongs s g
  pub cell : c < cell_count g.world
  pub code : IsWide s.view.world.space x
  pub searched : IsSearched s.view.world (state_of s.view.front) s.view.dues.seen x c
  pub ends : last ≡ is_last s.view.world x c

-- the cells of the path before the k-th are passed, and the cell is the k-th
pub record IsAt (w : WideView) (x : WideCode) (k c : ℕ) : Type 0 where
  pub searched : IsSearched w.world (state_of w.front) w.dues.seen x c
  pub step : searched.steps ≡ k

-- the search of one call so far: it is at the k-th cell, and there was no event yet
pub record Searching (first now : WideSeatValue) (x : WideCode) (k c : ℕ) : Type 0 where
  pub table : now.table ≡ first.table
  pub looked : Looked first.view now.view
  pub idle : now.view.dues.pending ≡ None
  pub at : IsAt now.view x k c

-- what trying a cell tells, and looking at it
abbrev pub Tries : WideView → WideView → ℕ → WideCode → Origin → Bool → Tried → Type 0
Tries v w c x o last Added = Ends v w (AddedAct c (number v.world.space x) o) (c ∷ [])
Tries v w c x o last TriedMet = Ends v w (Met c (number v.world.space x)) []
Tries v w c x o last TriedSpent = Ends v w (Spent (number v.world.space x)) []
Tries v w c x o last Passed = (last ≡ false) × Passing v w x c

abbrev pub Seeks : WideView → WideView → ℕ → WideCode → Bool → Sought → Type 0
Seeks v w c x last Found = Ends v w (Met c (number v.world.space x)) []
Seeks v w c x last Absent = Ends v w (Missed (number v.world.space x)) []
Seeks v w c x last SoughtPassed = (last ≡ false) × Passing v w x c

-- What calls on pairs tell. A pair is named by its number.
use Rattle.std.specs.Prelude.{ℕ, ◌≡◌, ◌≤◌, List, [], ◌∷◌, ◌++◌, length, Option, Some, None}
use Rattle.graph_history.specs.declared.event.Origin.{Origin}
use Rattle.graph_history.specs.declared.event.Act.{Act}
use Rattle.graph_history.specs.declared.event.Act.TheVariants.{Added as AddedAct, Met, Missed, Spent}
use Rattle.graph_history.specs.declared.answer.Added.{Added}
use Rattle.graph_history.specs.declared.answer.Added.TheVariants.{New, Old, Full}
use Rattle.graph_history.specs.History.{State, HasVertex, IsNew}
use Rattle.wide_words.specs.WideHistory.{WideWorldType}
use Rattle.wide_rule.specs.declared.dues.WideDues.{WideDues}
use Rattle.wide_rule.specs.Layout.{HasSeen}
use Rattle.wide_rule.specs.Rule.{WideView}
use Rattle.wide_rule.specs.Told.{Advances}

-- the call made this one event, owes these cells besides those before, and has no cell pending. What its seat had seen it has
-- seen, and first words that it met on its way may be among that
pub record Ends (v w : WideView) (act : Act) (more : List ℕ) : Type 0 where
  pub dues : WideDues
  pub advances : Advances v w (act ∷ []) dues
  pub owed : dues.owed ≡ v.dues.owed ++ more
  pub idle : dues.pending ≡ None
  pub seen : (c n : ℕ) → HasSeen v.dues.seen c n → HasSeen dues.seen c n

-- the one event of an entry of the pair with the number x: it was put in, it was there, or no cell was left. A cell that it
-- is new in is owed
abbrev pub entry_act : ℕ → Origin → Added → Act
entry_act x o (New c) = AddedAct c x o
entry_act x o (Old c) = Met c x
entry_act x o Full = Spent x

abbrev pub new_cells : Added → List ℕ
new_cells (New c) = c ∷ []
new_cells (Old c) = []
new_cells Full = []

abbrev pub Enters : WideView → WideView → ℕ → Origin → Added → Type 0
Enters v w x o answer = Ends v w (entry_act x o answer) (new_cells answer)

-- the answer is that of the state: the pair has the cell, or it is no vertex and there are as many as the capacity
abbrev pub IsAddedIn : WideWorldType → State → ℕ → Added → Type 0
IsAddedIn w s x (New c) = HasVertex s c x
IsAddedIn w s x (Old c) = HasVertex s c x
IsAddedIn w s x Full = IsNew s x × (w.capacity ≤ length s.vertices)

-- the one event of a search
abbrev pub search_act : ℕ → Option ℕ → Act
search_act x (Some c) = Met c x
search_act x None = Missed x

abbrev pub Finds : WideView → WideView → ℕ → Option ℕ → Type 0
Finds v w x answer = Ends v w (search_act x answer) []

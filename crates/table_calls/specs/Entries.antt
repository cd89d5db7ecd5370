-- What calls on words tell.
use Rattle.std.specs.Prelude.{ℕ, ◌≡◌, List, length}
use Rattle.tensor_words.specs.Worlds.{WorldType}
use Rattle.graph_history.specs.declared.event.Origin.{Origin}
use Rattle.graph_history.specs.declared.event.Act.{Act}
use Rattle.graph_history.specs.declared.answer.Added.{Added}
use Rattle.graph_history.specs.declared.answer.Added.TheVariants.{New, Old, Full}
use Rattle.graph_history.specs.declared.view.Dues.{Dues}
use Rattle.graph_history.specs.Views.{View}
use Rattle.graph_history.specs.History.{State, HasVertex, IsNew}
use Rattle.graph_history.specs.Desks.{IsEntry, EndsWith}
use Rattle.graph_rule.specs.Told.{Went, with_cell}

-- what a seat owes after an entry: a new cell is owed and unpaid
abbrev pub entered_dues : Added → Dues → Dues
entered_dues (New c) d = with_cell c d
entered_dues (Old c) d = d
entered_dues Full d = d

-- the own events are an entry, and the last event of the front is one of them
pub record Enters (v w : View) (x : ℕ) (o : Origin) (answer : Added) : Type 0 where
  pub acts : List Act
  pub entry : IsEntry x o answer acts
  pub went : Went v w acts (entered_dues answer v.dues)
  pub last : EndsWith v.number w.front

-- the answer is that of the state: the word has the cell, or every cell is taken and the word is no vertex
abbrev pub IsAddedIn : WorldType → State → ℕ → Added → Type 0
IsAddedIn w s x (New c) = HasVertex s c x
IsAddedIn w s x (Old c) = HasVertex s c x
IsAddedIn w s x Full = IsNew s x × (length s.vertices ≡ w.cells)

-- What callers of a shared graph know.
use Rattle.tensor_words.specs.Worlds.{WorldType}
use Rattle.shared_seats.specs.declared.view.View.{View as SeatView}
use Rattle.shared_seats.specs.declared.view.Kept.{Kept as SeatKept}
use Rattle.graph_history.specs.declared.event.Event.{Event}
use Rattle.graph_history.specs.declared.view.Dues.{Dues}

-- what a seat knows of the history of its world
abbrev pub View : Type 0
View = SeatView WorldType Event Dues

-- a caller number of a seat that was joined in, with its events
abbrev pub Kept : Type 0
Kept = SeatKept Event

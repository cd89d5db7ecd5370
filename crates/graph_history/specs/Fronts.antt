-- The list of events that a front stands for.
use Rattle.std.specs.Prelude.{List, [], Option, Some, None}
use Rattle.std.specs.declared.snapshot.Snapshot.{Snapshot}
use Rattle.atomic_table.specs.declared.shared.Seat.{Seat}
use Rattle.graph_history.specs.declared.event.Event.{Event}
use Rattle.graph_history.specs.Views.{View}

-- what was seen, or nothing
abbrev pub front_of : Option (Snapshot (Seat Unit View)) → List Event
front_of None = []
front_of (Some s) = s.value.me.0.front

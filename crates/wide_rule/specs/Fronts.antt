-- The list of events that a front of a wide graph stands for.
use Rattle.std.specs.Prelude.{List}
use Rattle.std.specs.declared.snapshot.Snapshot.{Snapshot}
use Rattle.atomic_table.specs.declared.shared.Seat.{Seat}
use Rattle.graph_history.specs.declared.event.Event.{Event}
use Rattle.wide_rule.specs.Rule.{WideView}

-- what was seen
abbrev pub front_of : Snapshot (Seat Unit WideView) → List Event
front_of s = s.value.me.0.front

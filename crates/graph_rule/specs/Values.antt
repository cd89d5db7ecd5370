-- Graphs and seats, as contracts see them.
use Rattle.std.specs.Prelude.{◌≡◌, List}
use Rattle.atomic_table.specs.Seated.{TableId}
use Rattle.tensor_words.specs.Worlds.{WorldType}
use Rattle.graph_history.specs.declared.event.Event.{Event}
use Rattle.graph_history.specs.Views.{View}

-- a graph: which table it is, and the world that it grows in
pub record GraphValue : Type 0 where
  pub table : TableId
  pub world : WorldType

-- a seat: whose table it sits at, and what it knows
pub record SeatValue : Type 0 where
  pub table : TableId
  pub view : View

-- the seat belongs to the graph for good: it came with it, or was split off from a seat that belongs to it
pub record Belongs (s : SeatValue) (g : GraphValue) : Type 0 where
  pub table : s.table ≡ g.table
  pub world : s.view.world ≡ g.world

-- a closed graph: the world and the front that it was made for
pub record ClosedValue : Type 0 where
  pub world : WorldType
  pub front : List Event

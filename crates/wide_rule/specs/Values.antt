-- Wide graphs and their seats, as contracts see them.
use Rattle.std.specs.Prelude.{◌≡◌, List}
use Rattle.atomic_table.specs.Seated.{TableId}
use Rattle.graph_history.specs.declared.event.Event.{Event}
use Rattle.wide_words.specs.WideHistory.{WideWorldType}
use Rattle.wide_rule.specs.Rule.{WideView}

-- a graph: which table it is, and the world that it grows in
pub record WideGraphValue : Type 0 where
  pub table : TableId
  pub world : WideWorldType

-- a seat: whose table it sits at, and what it knows
pub record WideSeatValue : Type 0 where
  pub table : TableId
  pub view : WideView

-- the seat belongs to the graph for good: it came with it, or was split off from a seat that belongs to it
pub record Belongs (s : WideSeatValue) (g : WideGraphValue) : Type 0 where
  pub table : s.table ≡ g.table
  pub world : s.view.world ≡ g.world

-- a closed graph: the world and the front that it was made for
pub record WideClosedValue : Type 0 where
  pub world : WideWorldType
  pub front : List Event

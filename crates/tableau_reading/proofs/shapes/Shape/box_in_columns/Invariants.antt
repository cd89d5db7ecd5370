use Rattle.std.proofs.Common.{◌≡◌, ◌+◌, length}
use Rattle.tableau_reading.specs.Shapes.{IsShape}
use Rattle.tableau_reading.specs.Readings.{boxes_before, width}
use Rattle.tableau_reading.proofs.shapes.Shape.box_in_columns.Given as goal

abbrev pub invariant-columns : goal.invariant-columns
invariant-columns l = record {
  before : l.left + length (boxes_before l.self.rows l.column) ≡ l.place;
  last : l.column-end ≡ width l.self.rows;
  shape : IsShape l.self;
}

use Rattle.std.proofs.Common.{◌≡◌, length}
use Rattle.tableau_reading.specs.Readings.{boxes_before}
use Rattle.tableau_reading.proofs.shapes.Shape.place_in_columns.Given as goal

abbrev pub invariant-columns : goal.invariant-columns
invariant-columns l = l.before ≡ length (boxes_before l.self.rows l.earlier)

use Rattle.std.proofs.Common.{◌≡◌, take, length}
use Rattle.std.specs.Prelude.{sum}
use Rattle.tableau_reading.specs.Shapes.{IsShape}
use Rattle.tableau_reading.proofs.shapes.Shape.boxes.Given as goal

abbrev pub invariant-rows : goal.invariant-rows
invariant-rows l = record {
  boxes : l.boxes ≡ sum (take l.place l.self.rows);
  last : l.place-end ≡ length l.self.rows;
  shape : IsShape l.self;
}

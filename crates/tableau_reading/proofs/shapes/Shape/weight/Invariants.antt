use Rattle.std.proofs.Common.{◌≡◌, ◌*◌, ◌-◌, ◌≤◌, pos}
use Rattle.std.specs.Prelude.{slice_index}
use Rattle.crystal_cartan.specs.Types.{coordinates}
use Rattle.crystal_cartan.proofs.Coordinates.{IsFilled}
use Rattle.tableau_reading.specs.Shapes.{IsShape}
use Rattle.tableau_reading.proofs.shapes.Shape.weight.Given as goal

abbrev pub invariant-rows : goal.invariant-rows
invariant-rows l = record {
  filled : IsFilled (coordinates l.self.cartan) (λ j. pos (2 * slice_index l.self.rows (j - 1))) l.place l.weight;
  last : l.place-end ≡ coordinates l.self.cartan;
  few : l.place-end ≤ 9;
  shape : IsShape l.self;
}

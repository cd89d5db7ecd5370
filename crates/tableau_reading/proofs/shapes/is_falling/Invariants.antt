use Rattle.std.proofs.Common.{◌≡◌, ◌-◌, drop}
use Rattle.tableau_reading.specs.Shapes.{is_falling}
use Rattle.tableau_reading.proofs.shapes.is_falling.Given as goal

abbrev pub invariant-rows : goal.invariant-rows
invariant-rows l = is_falling l.rows ≡ is_falling (drop (l.place - 1) l.rows)

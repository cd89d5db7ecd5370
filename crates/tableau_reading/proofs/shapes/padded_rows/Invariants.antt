use Rattle.std.proofs.Common.{◌≡◌, ◌++◌, ◌-◌, take, replicate}
use Rattle.tableau_reading.proofs.shapes.padded_rows.Given as goal

abbrev pub invariant-rows : goal.invariant-rows
invariant-rows l = l.padded ≡ take l.place l.rows ++ replicate (9 - l.place) 0

use Rattle.std.proofs.Common.{◌≡◌, ◌^◌, ◌-◌, min}
use Rattle.tableau_reading.proofs.shapes.capped_power.Given as goal

abbrev pub invariant-factors : goal.invariant-factors
invariant-factors l = l.power ≡ min (l.base ^ l.counter) (2 ^ 64 - 1)

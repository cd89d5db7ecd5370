use Rattle.std.proofs.Common.{◌-◌}
use Rattle.tableau_reading.specs.Shapes.{box_count}
use Rattle.tableau_census.proofs.Completing.{IsPartial, next_codes}
use Rattle.tableau_census.proofs.counting.+complete.Given as goal

abbrev pub decreases-complete : goal.decreases-complete
decreases-complete l = 40 - l.place

-- the codes of the digits below this one are listed
abbrev pub invariant-digits : goal.invariant-digits
invariant-digits l = IsPartial (next_codes l.shape (box_count l.shape) l.place l.word) l.limit l.low l.bound l.digit l.fn.list.items l.list.items

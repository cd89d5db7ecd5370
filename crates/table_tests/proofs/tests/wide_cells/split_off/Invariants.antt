use Rattle.std.proofs.Common.{◌≡◌, None, All}
use Rattle.wide_rule.specs.Values.{Belongs}
use Rattle.table_tests.proofs.tests.wide_cells.split_off.Given as goal

abbrev pub invariant-loop-place : goal.invariant-loop-place
invariant-loop-place l = record {
  belongs : Belongs l.seat l.graph;
  idle : l.seat.view.dues.pending ≡ None;
  jobs : All (λ j. Belongs j.seat l.graph × (j.seat.view.dues.pending ≡ None)) l.jobs.items;
}

use Rattle.std.proofs.Common.{◌≡◌, ◌≤◌, None}
use Rattle.wide_rule.specs.Values.{Belongs}
use Rattle.table_tests.proofs.tests.wide_cells.found_where_put.Given as goal

abbrev pub invariant-loop-job : goal.invariant-loop-job
invariant-loop-job l = record {
  belongs : Belongs l.seat l.graph;
  idle : l.seat.view.dues.pending ≡ None;
  few : l.right ≤ l.job-index;
}

use Rattle.std.proofs.Common.{◌≡◌, ◌≤◌, None}
use Rattle.wide_rule.specs.Values.{Belongs}
use Rattle.table_tests.proofs.tests.wide_cells.new_and_found.Given as goal

abbrev pub invariant-loop-place : goal.invariant-loop-place
invariant-loop-place l = record {
  belongs : Belongs l.seat l.graph;
  idle : l.seat.view.dues.pending ≡ None;
  few : l.right ≤ l.place;
}

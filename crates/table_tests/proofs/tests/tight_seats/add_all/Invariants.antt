use Rattle.std.proofs.Common.{◌≡◌}
use Rattle.graph_rule.specs.Values.{Belongs}
use Rattle.table_tests.proofs.tests.tight_seats.add_all.Given as goal

abbrev pub invariant-loop-place : goal.invariant-loop-place
invariant-loop-place l = record {
  belongs : Belongs l.seat l.graph;
  pledge : l.seat.view.dues.pledge ≡ 0;
}

-- The bench only loads.
use Rattle.std.proofs.Common.{◌≡◌, ◌≤◌}
use Rattle.graph_rule.specs.Values.{Belongs}
use Rattle.growth_tests.proofs.tests.gatherings.load_each.Given as goal

abbrev pub invariant-loop-place : goal.invariant-loop-place
invariant-loop-place g l = record {
  belongs : Belongs l.seat l.graph;
  pledge : l.seat.view.dues.pledge ≡ 0;
  few : l.loaded ≤ l._place;
  same : l.bench ≡ record l.fn.bench { pushed = l.bench.pushed };
}

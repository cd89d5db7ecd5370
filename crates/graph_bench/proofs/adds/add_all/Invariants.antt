-- The seat can go on, and keeps its stake.
use Rattle.std.proofs.Common.{◌≡◌, ◌≤◌, ◌+◌}
use Rattle.graph_bench.specs.Adding.{CanAdd}
use Rattle.graph_bench.proofs.adds.add_all.Given as goal

abbrev pub invariant-loop-place : goal.invariant-loop-place
invariant-loop-place l = record {
  can : CanAdd l.graph l.seat 1;
  stake : l.seat.view.stake ≡ l.fn.seat.view.stake;
  few : l.fresh + l.from ≤ l.place;
}

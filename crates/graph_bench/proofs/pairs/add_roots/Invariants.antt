-- The seat can go on.
use Rattle.std.proofs.Common.{◌≡◌, ◌≤◌}
use Rattle.graph_bench.specs.Adding.{CanAddPairs}
use Rattle.graph_bench.proofs.pairs.add_roots.Given as goal

abbrev pub invariant-loop-place : goal.invariant-loop-place
invariant-loop-place l = record {
  can : CanAddPairs l.graph l.seat;
  few : l.fresh ≤ l.place;
  are : l.roots ≡ l.graph.world.roots;
}

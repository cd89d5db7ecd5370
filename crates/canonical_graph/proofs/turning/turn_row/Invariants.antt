use Rattle.std.proofs.Common.{◌≡◌, ◌+◌, ◌*◌}
use Rattle.canonical_graph.specs.Turning.{AreTurned}
use Rattle.canonical_graph.proofs.turning.turn_row.Given as goal

abbrev pub invariant-indices : goal.invariant-indices
invariant-indices l = record {
  turned : AreTurned l.indices l.vertices (l.rank * l.indices + l.j) l.entries l.back.items;
  first : l.first ≡ l.rank * l.indices;
}

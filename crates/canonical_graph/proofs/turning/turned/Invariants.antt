use Rattle.std.proofs.Common.{◌*◌}
use Rattle.canonical_graph.specs.Turning.{AreTurned}
use Rattle.canonical_graph.proofs.turning.turned.Given as goal

abbrev pub invariant-ranks : goal.invariant-ranks
invariant-ranks l = AreTurned l.indices l.vertices (l.rank * l.indices) l.entries l.back.items

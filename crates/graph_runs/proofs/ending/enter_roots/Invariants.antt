use Rattle.std.proofs.Common.{◌≡◌, take}
use Rattle.graph_runs.specs.Ending.{IsEntering}
use Rattle.graph_runs.proofs.ending.enter_roots.Given as goal

abbrev pub invariant-roots : goal.invariant-roots
invariant-roots l = record {
  entering : IsEntering l.fn.seat l.seat l.fn.cells.items l.cells.items (take l.root-index l.roots);
  all : l.roots ≡ l.graph.world.roots;
}

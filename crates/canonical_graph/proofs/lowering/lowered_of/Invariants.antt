use Rattle.std.proofs.Common.{◌≡◌, ◌*◌, ◌≤◌, length}
use Rattle.canonical_graph.specs.Graphs.{finished_graph}
use Rattle.canonical_graph.specs.Tables.{AreLowered}
use Rattle.canonical_graph.proofs.lowering.lowered_of.Given as goal

abbrev pub invariant-ranks : goal.invariant-ranks
invariant-ranks l = record {
  lowered : AreLowered (finished_graph l.steps l.codes) l.rank l.lowered.ranks.items l.lowered.arrows;
  few : l.lowered.arrows ≤ 8 * l.rank;
  last : l.rank-end ≡ length l.codes;
}

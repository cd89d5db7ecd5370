use Rattle.std.proofs.Common.{◌≡◌, ◌*◌, ◌≤◌, length}
use Rattle.canonical_graph.specs.Graphs.{finished_graph}
use Rattle.plain_growth.specs.Growth.{codes_in}
use Rattle.canonical_graph.specs.Tables.{AreLowered}
use Rattle.plain_growth.proofs.noted.lowered_of_growth.Given as goal

abbrev pub invariant-ranks : goal.invariant-ranks
invariant-ranks l = record {
  lowered : AreLowered (finished_graph l.steps (codes_in l.list)) l.rank l.lowered.ranks.items l.lowered.arrows;
  few : l.lowered.arrows ≤ 8 * l.rank;
  last : l.rank-end ≡ length l.list;
}

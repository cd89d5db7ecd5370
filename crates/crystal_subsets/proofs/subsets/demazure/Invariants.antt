use Rattle.std.proofs.Common.{◌≡◌, ◌≤◌, drop, length}
use Rattle.canonical_graph.specs.Graphs.{code_at}
use Rattle.crystal_subsets.proofs.MarkedSubsets.{AreMarked}
use Rattle.crystal_subsets.proofs.subsets.demazure.Given as goal

abbrev pub invariant-indices : goal.invariant-indices
invariant-indices l = record {
  size : length l.marks.items ≡ length l.finished.codes;
  within : l.place ≤ length l.indices;
  marked : AreMarked l.finished (code_at l.finished l.rank) (drop l.place l.indices) l.marks.items;
}

abbrev pub decreases-indices : goal.decreases-indices
decreases-indices l = l.place

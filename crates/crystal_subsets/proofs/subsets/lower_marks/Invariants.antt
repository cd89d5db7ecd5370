use Rattle.std.proofs.Common.{◌≡◌, length}
use Rattle.crystal_subsets.proofs.Lowering.{IsPassed}
use Rattle.crystal_subsets.proofs.subsets.lower_marks.Given as goal

abbrev pub invariant-ranks : goal.invariant-ranks
invariant-ranks l = record {
  passed : IsPassed l.finished l.index l.fn.marks l.rank l.marks;
  last : l.rank-end ≡ length l.finished.codes;
}

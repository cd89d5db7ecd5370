use Rattle.std.proofs.Common.{◌≡◌, length}
use Rattle.std.specs.List.{filter, range_with_len}
use Rattle.crystal_subsets.specs.Marks.{is_marked}
use Rattle.crystal_subsets.proofs.subsets.marked_ranks.Given as goal

abbrev pub invariant-ranks : goal.invariant-ranks
invariant-ranks l = record {
  listed : l.ranks.keys ≡ filter (is_marked l.marks) (range_with_len 0 l.rank);
  last : l.rank-end ≡ length l.marks;
}

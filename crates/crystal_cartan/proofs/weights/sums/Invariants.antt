use Rattle.std.proofs.Common.{◌≡◌, ℕ, ◌<◌, pos, ◌+ℤ◌, length, slice_index_or}
use Rattle.crystal_cartan.proofs.weights.sums.Given as goal

abbrev pub invariant-places : goal.invariant-places
invariant-places l = record {
  size : length l.sums ≡ 9;
  done : (k : ℕ) → k < l.place → slice_index_or l.sums k (pos 0) ≡ slice_index_or l.left k (pos 0) +ℤ slice_index_or l.right k (pos 0);
}

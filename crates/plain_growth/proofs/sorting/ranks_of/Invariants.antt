use Rattle.std.proofs.Common.{◌≡◌, ℕ, ◌<◌, length, get_or}
use Rattle.plain_growth.specs.Growth.{codes_in}
use Rattle.plain_growth.proofs.sorting.ranks_of.Given as goal

abbrev pub invariant-ranks : goal.invariant-ranks
invariant-ranks l = record {
  size : length l.ranks.items ≡ length l.found;
  ranked : (k r : ℕ) → k < length l.found → r < l.rank → get_or (codes_in l.list) r 0 ≡ get_or l.found k 0 → get_or l.ranks.items k 0 ≡ r;
  last : l.rank-end ≡ length l.list;
}

use Rattle.std.proofs.Common.{◌≡◌, ℕ, ◌≤◌, ◌<◌, length, get_or, Some, vec_capacity}
use Rattle.crystal_characters.specs.Reflections.{reflection_rank}
use Rattle.ask_answers.proofs.reflections.images.Given as goal

abbrev pub invariant-ranks : goal.invariant-ranks
invariant-ranks l = record {
  last : l.rank-end ≡ length l.finished.codes;
  size : length l.images.items ≡ l.rank;
  capacity : length l.finished.codes ≤ vec_capacity l.images;
  each : (rank : ℕ) → rank < l.rank → reflection_rank l.finished l.index rank ≡ Some (get_or l.images.items rank 0);
}

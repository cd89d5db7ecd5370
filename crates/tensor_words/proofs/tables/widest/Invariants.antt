use Rattle.std.proofs.Common.{ℕ, ◌<◌, ◌≤◌}
use Rattle.tensor_words.specs.Spaces.{size_at}
use Rattle.tensor_words.proofs.tables.widest.Given as goal

abbrev pub invariant-places : goal.invariant-places
invariant-places l = record {
  some : (0 < l.width) × (l.width ≤ 256);
  wide : (k : ℕ) → k < l.place → size_at l.space k ≤ l.width;
}

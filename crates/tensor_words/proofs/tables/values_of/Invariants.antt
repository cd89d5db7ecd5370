use Rattle.std.proofs.Common.{◌≡◌, ℕ, ◌≤◌, ◌<◌, length, drop, slice_index}
use Rattle.tensor_words.specs.Spaces.{product, sizes}
use Rattle.tensor_words.specs.Tables.{place_value}
use Rattle.tensor_words.proofs.tables.values_of.Given as goal

abbrev pub invariant-places : goal.invariant-places
invariant-places l = record {
  fits : l.place ≤ length l.space.factors;
  count : length l.values ≡ 40;
  value : l.value ≡ product (drop l.place (sizes l.space));
  each : (k : ℕ) → l.place ≤ k → k < length l.space.factors → slice_index l.values k ≡ place_value l.space k;
}

abbrev pub decreases-places : goal.decreases-places
decreases-places l = l.place

use Rattle.std.proofs.Common.{◌≡◌, ℕ, ◌<◌, length, slice_index, slice_index_or, None}
use Rattle.tensor_words.specs.Tables.{IsBitShift}
use Rattle.tensor_words.proofs.tables.shifts_of.Given as goal

abbrev pub invariant-places : goal.invariant-places
invariant-places l = record {
  count : length l.shifts ≡ 40;
  each : (k : ℕ) → k < l.place → IsBitShift (slice_index l.values k) (slice_index_or l.shifts k None);
}

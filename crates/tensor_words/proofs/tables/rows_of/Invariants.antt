use Rattle.std.proofs.Common.{◌≡◌, ℕ, ◌<◌, length, slice_index_or}
use Rattle.tensor_words.specs.Tables.{IsRowAt, no_row}
use Rattle.tensor_words.proofs.tables.rows_of.Given as goal

abbrev pub invariant-rows : goal.invariant-rows
invariant-rows l = record {
  count : length l.rows.items ≡ l.at;
  each : (m : ℕ) → m < l.at → IsRowAt l.space l.width m (slice_index_or l.rows.items m no_row);
}

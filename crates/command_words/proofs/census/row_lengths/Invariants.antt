use Rattle.command_words.proofs.RowLemmas.{AreRowsSoFar}
use Rattle.command_words.proofs.census.row_lengths.Given as goal

abbrev pub invariant-rows : goal.invariant-rows
invariant-rows l = AreRowsSoFar l.rows l.row-index l.lengths.items

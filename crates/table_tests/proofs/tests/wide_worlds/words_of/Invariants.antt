use Rattle.std.proofs.Common.{All}
use Rattle.wide_words.specs.WideSpaces.{IsWide}
use Rattle.table_tests.proofs.tests.wide_worlds.words_of.Given as goal

abbrev pub invariant-loop-pair : goal.invariant-loop-pair
invariant-loop-pair l = All (IsWide l.space) l.words.items

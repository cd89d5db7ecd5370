-- The pairs that were made are words.
use Rattle.std.proofs.Common.{All}
use Rattle.wide_words.specs.WideSpaces.{IsWide}
use Rattle.graph_bench.proofs.pairs.pairs.Given as goal

abbrev pub invariant-loop-code : goal.invariant-loop-code
invariant-loop-code l = All (IsWide l.space) l.made.items

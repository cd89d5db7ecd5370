use Rattle.std.proofs.Common.{◌≡◌, length, take}
use Rattle.graph_tests.proofs.tests.graphs.made_again.Given as goal

abbrev pub invariant-codes : goal.invariant-codes
invariant-codes l = record {
  copied : l.codes.items ≡ take l.rank l.graph.codes;
  last : l.rank-end ≡ length l.graph.codes;
}

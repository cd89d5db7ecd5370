use Rattle.std.proofs.Common.{◌≡◌, ◌∙◌, ◌≤◌, ℕ, List, length, take, arith}
use Rattle.std.proofs.lemmas.List.{take_all}
use Rattle.graph_tests.proofs.tests.graphs.made_again.Goals as goal

copied_whole : (made listed codes : List ℕ) (rank : ℕ) → made ≡ listed → listed ≡ take rank codes → length codes ≤ rank → made ≡ codes
copied_whole made listed codes rank is copied all = is ∙ copied ∙ take_all rank codes all

pub of-requires-2-clause-ascending : goal.of-requires-2-clause-ascending
of-requires-2-clause-ascending c =
    rw (copied_whole _ _ c.args.graph.now.codes c.codes.rank c.of.ensures c.codes.invariant.copied (omega (arith, c.codes-test.false, c.codes.invariant.last)))
    c.len-rank-end.ensures.finished.ascending

pub of-requires-2-clause-below : goal.of-requires-2-clause-below
of-requires-2-clause-below c =
    rw (copied_whole _ _ c.args.graph.now.codes c.codes.rank c.of.ensures c.codes.invariant.copied (omega (arith, c.codes-test.false, c.codes.invariant.last)), c.space.ensures.space)
    c.len-rank-end.ensures.finished.below

pub of-requires-2-clause-few : goal.of-requires-2-clause-few
of-requires-2-clause-few c =
    rw (copied_whole _ _ c.args.graph.now.codes c.codes.rank c.of.ensures c.codes.invariant.copied (omega (arith, c.codes-test.false, c.codes.invariant.last)))
    c.len-rank-end.ensures.finished.few

pub of-requires-2-clause-closed : goal.of-requires-2-clause-closed
of-requires-2-clause-closed c =
    rw (copied_whole _ _ c.args.graph.now.codes c.codes.rank c.of.ensures c.codes.invariant.copied (omega (arith, c.codes-test.false, c.codes.invariant.last)), c.space.ensures.space)
    c.len-rank-end.ensures.finished.closed

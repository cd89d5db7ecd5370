use Rattle.std.proofs.Common.{arith}
use Rattle.crystal_subsets.proofs.Lowering.{pass_begins, pass_goes_on, pass_ends}
use Rattle.crystal_subsets.proofs.subsets.lower_marks.Goals as goal

pub ranks-init : goal.ranks-init
ranks-init c = record { passed = pass_begins c.args.finished.now c.args.index c.args.marks.now c.requires.marks; last = c.len-rank-end.ensures.len }

pub ranks-preserved : goal.ranks-preserved
ranks-preserved c = record {
  passed =
      pass_goes_on c.args.finished.now c.args.index c.ranks.rank c.args.marks.now c.ranks.marks c.len-rank-end.ensures.finished c.requires.index
      (omega (arith, c.ranks-test.true, c.ranks.invariant.last)) c.ranks.invariant.passed c.mark_next.new.marks c.mark_next.ensures;
  last = c.ranks.invariant.last;
}

pub returns : goal.returns
returns c =
    pass_ends c.args.finished.now c.args.index c.ranks.rank c.args.marks.now c.ranks.marks c.len-rank-end.ensures.finished c.requires.index (omega arith)
    c.ranks.invariant.passed

use Rattle.std.proofs.Common.{arith}
use Rattle.answer_text.proofs.Spacing.{print_more, print_ends}
use Rattle.answer_text.proofs.vertices.print_arrows.Goals as goal

pub indices-preserved : goal.indices-preserved
indices-preserved c = record {
  printed =
      print_more c.args.finished.now c.args.rank c.indices.place c.args.out.now c.indices.out c.print_arrow-first.new.out c.indices.first c.print_arrow-first.result
      c.indices.invariant.printed c.print_arrow-first.ensures.text c.print_arrow-first.ensures.first;
  fits = omega (arith, c.print_arrow-first.ensures.fits, c.indices.invariant.fits);
  last = c.indices.invariant.last;
  small = c.indices.invariant.small;
}

pub returns-clause-text : goal.returns-clause-text
returns-clause-text c =
    print_ends c.args.finished.now c.args.rank c.indices.place c.args.out.now c.indices.out c.print_dash.new.out c.indices.first
    (omega (arith, c.indices.invariant.last)) c.indices.invariant.printed c.print_dash.ensures.text

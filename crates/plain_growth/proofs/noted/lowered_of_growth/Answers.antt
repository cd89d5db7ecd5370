use Rattle.std.proofs.Common.{refl, arith}
use Rattle.canonical_graph.specs.Graphs.{finished_graph}
use Rattle.plain_growth.specs.Growth.{codes_in}
use Rattle.canonical_graph.proofs.Rows.{more_lowered, none_lowered, all_lowered}
use Rattle.plain_growth.proofs.noted.lowered_of_growth.Goals as goal

pub ranks-init : goal.ranks-init
ranks-init c = record {
  lowered = none_lowered (finished_graph c.args.steps.now (codes_in c.args.list.now)) _ _ c.in_ok-lowered.ensures.ranks c.in_ok-lowered.ensures.arrows;
  few = omega (arith, c.in_ok-lowered.ensures.arrows);
  last = refl;
}

pub ranks-preserved : goal.ranks-preserved
ranks-preserved c =
    let done = c.in_ok-push_noted_row.ensures in
    let kept = c.ranks.invariant in
    record {
      lowered = more_lowered (finished_graph c.args.steps.now (codes_in c.args.list.now)) c.ranks.rank _ _ _ _ kept.lowered done.ranks done.arrows;
      few = omega (arith, done.few, kept.few);
      last = kept.last;
    }

pub returns : goal.returns
returns c = all_lowered (finished_graph c.args.steps.now (codes_in c.args.list.now)) c.ranks.rank _ _ _ (omega arith) c.ranks.invariant.lowered

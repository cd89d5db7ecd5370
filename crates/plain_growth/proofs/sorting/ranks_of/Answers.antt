use Rattle.std.proofs.Common.{◌∙◌, arith}
use Rattle.std.proofs.lemmas.List.{length-map, length-set}
use Rattle.plain_growth.proofs.Scattering.{more_ranked, all_ranked}
use Rattle.plain_growth.proofs.sorting.ranks_of.Goals as goal

pub ranks-preserved : goal.ranks-preserved
ranks-preserved c =
    let kept = c.ranks.invariant in
    record {
      size = length-set c.ranks.ranks.items _ _ ∙ kept.size;
      ranked = more_ranked c.args.found.now c.ranks.ranks.items c.args.list.now c.ranks.rank (omega arith) c.len.ensures.distinct kept.size c.requires.sorted c.requires.placed kept.ranked;
      last = kept.last;
    }

pub returns : goal.returns
returns c =
    let kept = c.ranks.invariant in
    all_ranked c.args.found.now c.ranks.ranks.items _ kept.size c.requires.sorted
    (λ k r lt below here. kept.ranked k r lt (omega (arith, c.ranks-test.false, kept.last, length-map c.args.list.now (λ x. x.code))) here)

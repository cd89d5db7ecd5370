use Rattle.std.proofs.Common.{◌∙◌, sym}
use Rattle.crystal_subsets.proofs.TopLists.{top_added, top_passed}
use Rattle.crystal_subsets.proofs.tops.product_tops.Goals as goal
use Rattle.crystal_subsets.proofs.tops.product_tops.Goals.{then-is_top+in_ok-push, else-is_top}

pub is_top-requires-clause-whole : goal.is_top-requires-clause-whole
is_top-requires-clause-whole c = rw c.steps-steps.ensures.space c.requires.whole

pub ranks-preserved : goal.ranks-preserved
ranks-preserved c =
    let f = c.args.finished.now in
    let weight = c.args.other_top.now in
    let n = c.ranks.rank in
    record {
      listed =
          elim c.if-is_top.branch [
            | then-is_top+in_ok-push w ↦
                rw w.tops-is
                (top_added f weight w.weight.result w.plus-weight.result n c.ranks.tops.items w.push.new.self.items c.steps-steps.result.now
                c.word_at-word.result c.steps-steps.ensures.space c.word_at-word.ensures.word (sym w.if-is_top.true ∙ c.is_top.ensures)
                w.weight.ensures.value w.plus-weight.ensures.sum c.ranks.invariant.listed w.in_ok-push.ensures.items)
            | else-is_top w ↦
                rw w.tops-is
                (top_passed f weight n c.ranks.tops.items c.steps-steps.result.now c.word_at-word.result c.steps-steps.ensures.space c.word_at-word.ensures.word
                (sym w.if-is_top.false ∙ c.is_top.ensures) c.ranks.invariant.listed)
          ];
      last = c.ranks.invariant.last;
    }

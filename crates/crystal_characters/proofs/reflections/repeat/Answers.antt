use Rattle.std.proofs.Common.{◌≡◌, suc, ◌+◌, ◌-◌, sym, ◌∙◌, arith}
use Rattle.crystal_characters.proofs.Reflecting.{repeat_more, repeat_stopped, repeat_ended}
use Rattle.crystal_characters.proofs.reflections.repeat.Goals as goal

pub returns-in_default-clause-target : goal.returns-in_default-clause-target
returns-in_default-clause-target c =
    let left : c.args.times - c.steps.counter ≡ suc (c.args.times - (c.steps.counter + 1)) = omega arith in
    sym (c.steps.invariant.2 ∙ repeat_stopped c.args.finished.now c.args.arrow _ _ c.steps.at c.arrow_at.ensures.finished c.steps.invariant.0
    c.requires.arrow left (sym c.arrow_at.ensures.target ∙ c.in_default.is))

pub steps-preserved : goal.steps-preserved
steps-preserved c =
    let left : c.args.times - c.steps.counter ≡ suc (c.args.times - (c.steps.counter + 1)) = omega arith in (
      c.in-Some.ensures.below,
      omega arith,
      c.steps.invariant.2
          ∙ repeat_more c.args.finished.now c.args.arrow _ _ c.steps.at c.in-Some.next left (sym c.in-Some.ensures.target),
    )

pub returns-clause-target : goal.returns-clause-target
returns-clause-target c =
    sym (c.steps.invariant.2 ∙ repeat_ended c.args.finished.now c.args.arrow _ c.steps.at c.len-count.ensures.finished c.steps.invariant.0 (omega arith))

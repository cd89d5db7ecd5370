use Rattle.signature_rule.proofs.PassSteps.{eps_start, eps_more}
use Rattle.signature_rule.proofs.brackets.opening_left.Goals as goal

pub factors-init : goal.factors-init
factors-init c = eps_start c.args.space.now c.args.i c.args.word.now

pub factors-preserved : goal.factors-preserved
factors-preserved c =
    rw c.saturating_sub.ensures
    (eps_more c.args.space.now c.args.i c.args.word.now c.factors.place c.factors.open c.signs_at-signs.result.opening c.signs_at-signs.result.closing
    c.signs_at-signs.ensures.signs c.signs_at-signs.ensures.few.0 c.factors.invariant)

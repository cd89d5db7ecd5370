use Rattle.std.proofs.Common.{◌≡◌, ◌+◌, ◌-◌, arith}
use Rattle.signature_rule.proofs.PassSteps.{IsPhiPass, phi_more, phi_end}
use Rattle.signature_rule.proofs.brackets.closing_left.Goals as goal

pub factors-preserved : goal.factors-preserved
factors-preserved c =
    let here : c.factors.place - 1 + 1 ≡ c.factors.place = omega arith in
    let before : IsPhiPass c.args.space.now c.args.i c.args.word.now (c.factors.place - 1 + 1) c.factors.left = rw here c.factors.invariant.1 in
    rw c.saturating_sub.ensures (
      omega arith,
      phi_more c.args.space.now c.args.i c.args.word.now (c.factors.place - 1) c.factors.left c.signs_at-signs.result.opening c.signs_at-signs.result.closing
          c.signs_at-signs.ensures.signs c.signs_at-signs.ensures.few.1 before,
    )

pub returns-clause-value : goal.returns-clause-value
returns-clause-value c =
    let done : c.factors.place ≡ 0 = omega arith in
    phi_end c.args.space.now c.args.i c.args.word.now c.factors.left (rw done at c.factors.invariant.1)

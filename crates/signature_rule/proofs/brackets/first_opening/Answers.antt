use Rattle.std.proofs.Common.{◌≡◌, ◌+◌, ◌-◌, arith}
use Rattle.signature_rule.proofs.PassSteps.{IsRaisePass, raise_here, raise_not_here, raise_end}
use Rattle.signature_rule.proofs.brackets.first_opening.Goals as goal
use Rattle.signature_rule.proofs.brackets.first_opening.Goals.{then-signs-unopened, else-signs-unopened}

pub leftmost-preserved : goal.leftmost-preserved
leftmost-preserved c =
    let here : c.leftmost.place - 1 + 1 ≡ c.leftmost.place = omega arith in
    let before : IsRaisePass c.args.space.now c.args.i c.args.word.now (c.leftmost.place - 1 + 1) c.leftmost.unopened c.leftmost.first = rw here c.leftmost.invariant.1 in
    elim c.if-signs-unopened.branch [
      | then-signs-unopened w ↦ rw (c.saturating_sub.ensures, w.first-is) (
        omega arith,
        raise_here c.args.space.now c.args.i c.args.word.now (c.leftmost.place - 1) c.leftmost.unopened c.signs_at-signs.result.opening c.signs_at-signs.result.closing c.leftmost.first
            c.signs_at-signs.ensures.signs c.signs_at-signs.ensures.few.1 before w.if-signs-unopened.true,
      )
      | else-signs-unopened w ↦ rw (c.saturating_sub.ensures, w.first-is) (
        omega arith,
        raise_not_here c.args.space.now c.args.i c.args.word.now (c.leftmost.place - 1) c.leftmost.unopened c.signs_at-signs.result.opening c.signs_at-signs.result.closing c.leftmost.first
            c.signs_at-signs.ensures.signs c.signs_at-signs.ensures.few.1 before w.if-signs-unopened.false,
      )
    ]

pub returns : goal.returns
returns c =
    let done : c.leftmost.place ≡ 0 = omega arith in
    raise_end c.args.space.now c.args.i c.args.word.now c.leftmost.unopened c.leftmost.first (rw done at c.leftmost.invariant.1)

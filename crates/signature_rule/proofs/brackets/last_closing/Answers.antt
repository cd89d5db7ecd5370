use Rattle.std.proofs.Common.{arith}
use Rattle.signature_rule.proofs.PassSteps.{lower_here, lower_not_here, lower_end}
use Rattle.signature_rule.proofs.brackets.last_closing.Goals as goal
use Rattle.signature_rule.proofs.brackets.last_closing.Goals.{then-signs-unclosed, else-signs-unclosed}

pub rightmost-preserved : goal.rightmost-preserved
rightmost-preserved c =
    elim c.if-signs-unclosed.branch [
      | then-signs-unclosed w ↦ rw (c.saturating_sub.ensures, w.last-is)
          (lower_here c.args.space.now c.args.i c.args.word.now c.rightmost.place c.rightmost.unclosed c.signs_at-signs.result.opening c.signs_at-signs.result.closing c.rightmost.last
          c.signs_at-signs.ensures.signs c.signs_at-signs.ensures.few.0 c.rightmost.invariant w.if-signs-unclosed.true)
      | else-signs-unclosed w ↦ rw (c.saturating_sub.ensures, w.last-is)
          (lower_not_here c.args.space.now c.args.i c.args.word.now c.rightmost.place c.rightmost.unclosed c.signs_at-signs.result.opening c.signs_at-signs.result.closing c.rightmost.last
          c.signs_at-signs.ensures.signs c.signs_at-signs.ensures.few.0 c.rightmost.invariant w.if-signs-unclosed.false)
    ]

pub returns : goal.returns
returns c =
    lower_end c.args.space.now c.args.i c.args.word.now c.rightmost.place c.rightmost.unclosed c.rightmost.last
    c.count-place-end.ensures.space c.requires.index c.requires.word (omega arith) c.rightmost.invariant

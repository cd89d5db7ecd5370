use Rattle.std.proofs.Common.{arith}
use Rattle.tensor_words.proofs.TensorSteps.{at_place, lower_zero, lower_made, lower_passed}
use Rattle.tensor_words.proofs.spaces.Space.+lower_from.Goals as goal

pub returns-in_err-lowered-clause-value : goal.returns-in_err-lowered-clause-value
returns-in_err-lowered-clause-value t c =
    let at = at_place c.args.self.now c.args.i c.args.place c.args.word.now c.requires.word (omega arith)
    c.digit_in-digit.ensures.digit c.phi_from.ensures.value c.seen_eps.ensures.value in
    let step = c.in_err-lowered.ensures in
    lower_zero at c.if-phi_from-seen_eps.true step.value c.from_residual.ensures

pub returns-then-phi_from-seen_eps-clause-value : goal.returns-then-phi_from-seen_eps-clause-value
returns-then-phi_from-seen_eps-clause-value t c =
    let at = at_place c.args.self.now c.args.i c.args.place c.args.word.now c.requires.word (omega arith)
    c.digit_in-digit.ensures.digit c.phi_from.ensures.value c.seen_eps.ensures.value in
    let step = c.in_ok-lowered.ensures in
    lower_made at c.if-phi_from-seen_eps.true step.value c.put.ensures.put

pub returns-clause-value : goal.returns-clause-value
returns-clause-value t c =
    let at = at_place c.args.self.now c.args.i c.args.place c.args.word.now c.requires.word (omega arith)
    c.digit_in-digit.ensures.digit c.phi_from.ensures.value c.seen_eps.ensures.value in
    lower_passed at c.if-phi_from-seen_eps.false c.lower_from.ensures.value

use Rattle.std.proofs.Common.{◌-◌, ◌∙◌, ap, arith}
use Rattle.crystal_cartan.specs.Weights.{zero_weight}
use Rattle.tensor_words.proofs.Sums.{weighed_none, weighed_more, weighed_all}
use Rattle.tensor_words.proofs.spaces.Space.weight.Goals as goal

pub loop-place-init : goal.loop-place-init
loop-place-init c =
    weighed_none c.args.self.now c.args.word.now c.count-place.result c.zero-weight.result c.count-place.ensures.count
    (c.zero-weight.ensures.zero ∙ ap zero_weight c.cartan.ensures.cartan)

pub loop-place-preserved : goal.loop-place-preserved
loop-place-preserved c =
    weighed_more c.args.self.now c.args.word.now (c.loop-place.place - 1) c.loop-place.place c.digit_in.result c.digit_weight-own.result c.loop-place.weight c.plus-weight.result
    (omega arith) (omega (arith, c.loop-place.invariant.fits)) c.requires c.digit_in.ensures.digit c.digit_weight-own.ensures.value c.digit_weight-own.ensures.size
    c.digit_weight-own.ensures.within c.plus-weight.ensures.sum c.loop-place.invariant

pub returns-clause-value : goal.returns-clause-value
returns-clause-value c = weighed_all c.args.self.now c.args.word.now c.loop-place.place c.loop-place.weight c.loop-place-test.false c.loop-place.invariant

use Rattle.std.proofs.Common.{◌-◌, length, ◌∙◌, ap, arith}
use Rattle.crystal_cartan.specs.Weights.{zero_weight}
use Rattle.tensor_words.specs.Spaces.{SpaceType}
use Rattle.tensor_words.proofs.Sums.{weighed_none, weighed_more, weighed_all}
use Rattle.tensor_words.proofs.steps.Steps.weight.Goals as goal

pub places-init : goal.places-init
places-init c =
    weighed_none c.args.self.now c.args.word.now c.count-place.result c.zero-weight.result (c.count-place.ensures.count ∙ ap (λ (s : SpaceType). length s.factors) c.self.view_is)
    (c.zero-weight.ensures.zero ∙ ap zero_weight c.cartan.ensures.cartan)

pub places-preserved : goal.places-preserved
places-preserved c =
    weighed_more c.args.self.now c.args.word.now (c.places.place - 1) c.places.place c.digit_in.result c.row-row.result.now.weight c.places.weight c.plus-weight.result
    (omega arith) (omega (arith, c.places.invariant.fits)) c.requires c.digit_in.ensures.digit c.row-row.ensures.weight c.row-row.ensures.size
    c.row-row.ensures.within c.plus-weight.ensures.sum c.places.invariant

pub returns-clause-value : goal.returns-clause-value
returns-clause-value c = weighed_all c.args.self.now c.args.word.now c.places.place c.places.weight c.places-test.false c.places.invariant

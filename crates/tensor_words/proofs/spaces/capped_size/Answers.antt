use Rattle.std.proofs.Common.{◌-◌, ◌^◌, arith}
use Rattle.tensor_words.proofs.Sizes.{capped_step, capped_end}
use Rattle.tensor_words.proofs.spaces.capped_size.Goals as goal

pub loop-factor-preserved : goal.loop-factor-preserved
loop-factor-preserved c = record {
  whole = capped_step _ _ _ c.loop-factor.size c.size_of_factor.result _ (2 ^ 64 - 1) _ c.requires.classical c.loop-factor-test.true c.size_of_factor.ensures.size c.saturating_mul-size.ensures c.loop-factor.invariant.whole;
  fits = omega arith;
}

pub returns : goal.returns
returns c = capped_end c.args.cartan c.args.factors.now c.loop-factor.factor-index c.loop-factor.size (2 ^ 64 - 1) _ c.loop-factor-test.false c.loop-factor.invariant.fits c.loop-factor.invariant.whole

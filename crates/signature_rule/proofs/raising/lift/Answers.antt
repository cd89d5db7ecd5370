use Rattle.std.proofs.Common.{arith}
use Rattle.signature_rule.proofs.Lifting.{lifting_more, lifting_end, lifting_few, raise_falls}
use Rattle.signature_rule.proofs.raising.lift.Goals as goal

pub overflow_add-raises : goal.overflow_add-raises
overflow_add-raises c =
    omega (arith, lifting_few c.args.space.now c.args.word.now c.raises.top c.raises.raises c.least_raise.ensures.space c.requires c.raises.invariant)

pub raises-smaller : goal.raises-smaller
raises-smaller c = (raise_falls c.args.space.now c.raises.top c.in-Some.higher c.least_raise.ensures.space c.raises.invariant.word c.in-Some.ensures.raise).1

pub raises-preserved : goal.raises-preserved
raises-preserved c =
    lifting_more c.args.space.now c.args.word.now c.raises.top c.in-Some.higher c.raises.raises c.least_raise.ensures.space c.raises.invariant c.in-Some.ensures.raise

pub returns-clause-lift : goal.returns-clause-lift
returns-clause-lift c =
    lifting_end c.args.space.now c.args.word.now c.raises.top c.raises.raises c.least_raise.ensures.space c.requires c.raises.invariant c.in_default.ensures.raise

pub returns-clause-few : goal.returns-clause-few
returns-clause-few c =
    omega (arith, lifting_few c.args.space.now c.args.word.now c.raises.top c.raises.raises c.least_raise.ensures.space c.requires c.raises.invariant)

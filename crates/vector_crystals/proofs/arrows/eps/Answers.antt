use Rattle.std.proofs.Common.{arith}
use Rattle.std.proofs.lemmas.Int.{ints}
use Rattle.vector_crystals.proofs.Rules.{eps_none, eps_long, eps_short}
use Rattle.vector_crystals.proofs.arrows.eps.Goals as goal

pub returns-in-None-clause-value : goal.returns-in-None-clause-value
returns-in-None-clause-value c = eps_none c.args.cartan c.args.i c.args.x.0 c.raise.result c.in-None.is c.raise.ensures.value

pub returns-in-Some-clause-value : goal.returns-in-Some-clause-value
returns-in-Some-clause-value c =
    eps_long c.args.cartan c.args.i c.args.x.0 c.raise.result _ c.is_long.ensures.classical c.requires.index c.requires.letter c.in-Some.is c.raise.ensures.value (c.is_long.ensures.long.0 c.if-is_long.true) (omega (arith, ints))

pub returns-in-Some-2-clause-value : goal.returns-in-Some-2-clause-value
returns-in-Some-2-clause-value c =
    eps_short c.args.cartan c.args.i c.args.x.0 c.raise.result _ c.is_long.ensures.classical c.requires.index c.requires.letter c.in-Some-2.is c.raise.ensures.value (λ long sign. omega (arith, ints))

pub returns-in-Some-2-2-clause-value : goal.returns-in-Some-2-2-clause-value
returns-in-Some-2-2-clause-value c =
    eps_short c.args.cartan c.args.i c.args.x.0 c.raise.result _ c.is_long.ensures.classical c.requires.index c.requires.letter c.in-Some-2.is c.raise.ensures.value (λ long sign. absurd (cc (c.is_long.ensures.long.1 long, c.if-is_long.false)))

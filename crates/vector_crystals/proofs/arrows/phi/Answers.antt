use Rattle.std.proofs.Common.{arith}
use Rattle.std.proofs.lemmas.Int.{ints}
use Rattle.vector_crystals.proofs.Rules.{phi_none, phi_long, phi_short}
use Rattle.vector_crystals.proofs.arrows.phi.Goals as goal

pub returns-in-None-clause-value : goal.returns-in-None-clause-value
returns-in-None-clause-value c = phi_none c.args.cartan c.args.i c.args.x.0 c.lower.result c.in-None.is c.lower.ensures.value

pub returns-in-Some-clause-value : goal.returns-in-Some-clause-value
returns-in-Some-clause-value c =
    phi_long c.args.cartan c.args.i c.args.x.0 c.lower.result _ c.is_long.ensures.classical c.requires.index c.requires.letter c.in-Some.is c.lower.ensures.value (c.is_long.ensures.long.0 c.if-is_long.true) (omega (arith, ints))

pub returns-in-Some-2-clause-value : goal.returns-in-Some-2-clause-value
returns-in-Some-2-clause-value c =
    phi_short c.args.cartan c.args.i c.args.x.0 c.lower.result _ c.is_long.ensures.classical c.requires.index c.requires.letter c.in-Some-2.is c.lower.ensures.value (λ long sign. omega (arith, ints))

pub returns-in-Some-2-2-clause-value : goal.returns-in-Some-2-2-clause-value
returns-in-Some-2-2-clause-value c =
    phi_short c.args.cartan c.args.i c.args.x.0 c.lower.result _ c.is_long.ensures.classical c.requires.index c.requires.letter c.in-Some-2.is c.lower.ensures.value (λ long sign. absurd (cc (c.is_long.ensures.long.1 long, c.if-is_long.false)))

use Rattle.std.proofs.Common.{◌≡◌, ◌/◌, ◌%◌, ◌^◌, ◌==◌, false, refl, arith}
use Rattle.std.proofs.lemmas.Bool.Decides.{nat_tests}
use Rattle.tableau_reading.proofs.SignTexts.{sign_here}
use Rattle.tableau_reading.proofs.printing.sign_byte.Goals as goal

pub returns-then-bits-below-eq1 : goal.returns-then-bits-below-eq1
returns-then-bits-below-eq1 c = rw (sign_here c.args.below c.args.bits, c.if-bits-below-eq1.true) refl

pub returns-else-bits-below-eq1 : goal.returns-else-bits-below-eq1
returns-else-bits-below-eq1 c =
    let plus : (c.args.bits / 2 ^ c.args.below % 2 == 1) ≡ false = grind (arith, nat_tests) in
    rw (sign_here c.args.below c.args.bits, plus) refl

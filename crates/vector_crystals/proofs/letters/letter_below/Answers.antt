use Rattle.std.proofs.Common.{arith}
use Rattle.std.proofs.lemmas.Int.{ints}
use Rattle.vector_crystals.proofs.Digits.{letter_at-unbarred, letter_at-barred, letter_at-zero}
use Rattle.vector_crystals.proofs.letters.letter_below.Goals as goal

pub returns-then-d-unbarred : goal.returns-then-d-unbarred
returns-then-d-unbarred c =
    omega (arith, ints, letter_at-unbarred c.args.cartan c.args.d c.size.ensures.classical c.requires (omega arith))

pub returns-then-size-d : goal.returns-then-size-d
returns-then-size-d c =
    omega (arith, ints, letter_at-barred c.args.cartan c.args.d c.size.ensures.classical c.requires (omega arith) (omega arith))

pub returns-else-size-d : goal.returns-else-size-d
returns-else-size-d c =
    omega (arith, ints, letter_at-zero c.args.cartan c.args.d c.size.ensures.classical c.requires (omega arith) (omega arith))

use Rattle.std.proofs.Common.{arith}
use Rattle.vector_crystals.proofs.Digits.{letter_at-letter, letter_digit-letter_at}
use Rattle.vector_crystals.proofs.letters.of_digit.Goals as goal

pub returns-then-d-base_size-clause-letter : goal.returns-then-d-base_size-clause-letter
returns-then-d-base_size-clause-letter c =
    rw c.letter_below.ensures (letter_at-letter c.args.cartan c.args.d c.base_size.ensures.classical (omega arith))

pub returns-then-d-base_size-clause-back : goal.returns-then-d-base_size-clause-back
returns-then-d-base_size-clause-back c =
    rw c.letter_below.ensures (letter_digit-letter_at c.args.cartan c.args.d c.base_size.ensures.classical (omega arith))

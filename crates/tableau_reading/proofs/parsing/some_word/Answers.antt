use Rattle.std.proofs.Common.{arith}
use Rattle.tensor_words.proofs.Sizes.{product_positive}
use Rattle.tableau_reading.proofs.parsing.some_word.Goals as goal

pub unreachable-requires : goal.unreachable-requires
unreachable-requires c =
    let space = c.count-count.ensures.space in
    omega (arith, product_positive c.args.space.now.cartan c.args.space.now.factors space.cartan, c.in-None.ensures.value)

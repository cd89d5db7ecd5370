use Rattle.std.proofs.Common.{arith}
use Rattle.tableau_census.proofs.ShapeWords.{length_of_word}
use Rattle.tableau_census.proofs.counting.lowest.Goals as goal

pub digit-requires : goal.digit-requires
digit-requires c = omega (arith, length_of_word c.args.shape.now c.args.word.now c.requires.word, c.place_of.ensures.below)

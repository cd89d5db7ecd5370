use Rattle.std.proofs.Common.{arith}
use Rattle.tensor_words.proofs.SpaceWords.{length_word, digit_small}
use Rattle.tensor_words.proofs.spaces.Space.digit_in.Goals as goal

pub digit-requires : goal.digit-requires
digit-requires c = omega (arith, length_word c.args.self.now c.args.word.now c.requires.word)

pub returns-clause-below : goal.returns-clause-below
returns-clause-below c = rw c.digit.ensures (digit_small c.args.self.now c.args.word.now c.args.place c.requires.word c.requires.place)

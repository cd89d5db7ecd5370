use Rattle.std.proofs.Common.{arith}
use Rattle.tensor_words.proofs.SpaceWords.{length_word, IsWord-set}
use Rattle.tensor_words.proofs.spaces.Space.put.Goals as goal

pub with-requires : goal.with-requires
with-requires c = omega (arith, length_word c.args.self.now c.args.word.now c.requires.word)

pub returns-clause-word : goal.returns-clause-word
returns-clause-word c = rw c.with.ensures (IsWord-set c.args.self.now c.args.word.now c.args.place c.args.digit c.requires.word c.requires.place c.requires.digit)

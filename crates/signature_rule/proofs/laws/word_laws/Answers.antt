use Rattle.tensor_words.proofs.KeptWords.{factors_of_space}
use Rattle.tensor_words.proofs.WordWeights.{seminormal_word}
use Rattle.signature_rule.proofs.laws.word_laws.Goals as goal

pub returns : goal.returns
returns c = seminormal_word c.args.space.now c.args.i c.args.word.now (factors_of_space c.args.space.now c.cartan-cartan.ensures.space) c.requires.index c.requires.word

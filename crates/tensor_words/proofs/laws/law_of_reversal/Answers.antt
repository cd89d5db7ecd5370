use Rattle.tensor_words.proofs.Reversal.{law_of_reversal, words_reversed}
use Rattle.tensor_words.proofs.laws.law_of_reversal.Goals as goal

pub returns : goal.returns
returns c = record { law = law_of_reversal; words = words_reversed }

use Rattle.tensor_words.proofs.Keeps.{operators_keep_words}
use Rattle.tensor_words.proofs.laws.operators_keep_words.Goals as goal

pub returns : goal.returns
returns c = operators_keep_words

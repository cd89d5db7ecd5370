use Rattle.tensor_words.proofs.CodeLaws.{codes_correspond}
use Rattle.tensor_words.proofs.laws.codes_correspond.Goals as goal

pub returns : goal.returns
returns c = codes_correspond

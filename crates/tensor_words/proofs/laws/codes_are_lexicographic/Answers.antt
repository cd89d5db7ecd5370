use Rattle.tensor_words.proofs.CodeLaws.{codes_are_lexicographic}
use Rattle.tensor_words.proofs.laws.codes_are_lexicographic.Goals as goal

pub returns : goal.returns
returns c = codes_are_lexicographic

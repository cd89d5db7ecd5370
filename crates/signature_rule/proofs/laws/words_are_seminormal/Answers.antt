use Rattle.tensor_words.proofs.Strings.{words_are_seminormal}
use Rattle.signature_rule.proofs.laws.words_are_seminormal.Goals as goal

pub returns : goal.returns
returns c = words_are_seminormal

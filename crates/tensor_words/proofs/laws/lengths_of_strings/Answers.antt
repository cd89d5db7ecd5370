use Rattle.tensor_words.proofs.Strings.{lengths_of_strings}
use Rattle.tensor_words.proofs.laws.lengths_of_strings.Goals as goal

pub returns : goal.returns
returns c = lengths_of_strings

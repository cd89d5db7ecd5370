use Rattle.wide_words.proofs.WideCodes.{pairs_are_words}
use Rattle.wide_words.proofs.laws.pairs_are_words.Goals as goal

pub returns : goal.returns
returns c = pairs_are_words

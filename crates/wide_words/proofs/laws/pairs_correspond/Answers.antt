use Rattle.wide_words.proofs.WideCodes.{pairs_correspond}
use Rattle.wide_words.proofs.laws.pairs_correspond.Goals as goal

pub returns : goal.returns
returns c = pairs_correspond

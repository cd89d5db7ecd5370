use Rattle.wide_words.proofs.WideCodes.{pairs_ascend}
use Rattle.wide_words.proofs.laws.pairs_ascend.Goals as goal

pub returns : goal.returns
returns c = pairs_ascend

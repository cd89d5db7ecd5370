use Rattle.wide_words.proofs.WideSound.{wide_spent_outnumbers}
use Rattle.wide_words.proofs.laws.wide_spent_outnumbers.Goals as goal

pub returns : goal.returns
returns c = wide_spent_outnumbers

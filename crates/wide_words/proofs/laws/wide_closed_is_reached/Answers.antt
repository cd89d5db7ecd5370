use Rattle.wide_words.proofs.WideSound.{wide_closed_is_reached}
use Rattle.wide_words.proofs.laws.wide_closed_is_reached.Goals as goal

pub returns : goal.returns
returns c = wide_closed_is_reached

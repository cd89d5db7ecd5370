use Rattle.wide_words.proofs.WideSound.{wide_closed_is_components}
use Rattle.wide_words.proofs.laws.wide_closed_is_components.Goals as goal

pub returns : goal.returns
returns c = wide_closed_is_components

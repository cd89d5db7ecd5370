use Rattle.wide_words.proofs.WideSound.{wide_states_are_simple}
use Rattle.wide_words.proofs.laws.wide_states_are_simple.Goals as goal

pub returns : goal.returns
returns c = wide_states_are_simple

use Rattle.wide_words.proofs.WideCounting.{wide_closed_is_counted}
use Rattle.wide_words.proofs.laws.wide_closed_is_counted.Goals as goal

pub returns : goal.returns
returns c = wide_closed_is_counted

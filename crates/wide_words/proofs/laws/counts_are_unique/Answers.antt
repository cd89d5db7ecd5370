use Rattle.wide_words.proofs.WideCounting.{counts_are_unique}
use Rattle.wide_words.proofs.laws.counts_are_unique.Goals as goal

pub returns : goal.returns
returns c = counts_are_unique

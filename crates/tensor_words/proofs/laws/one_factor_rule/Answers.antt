use Rattle.tensor_words.proofs.Reversal.{one_factor_rule}
use Rattle.tensor_words.proofs.laws.one_factor_rule.Goals as goal

pub returns : goal.returns
returns c = one_factor_rule

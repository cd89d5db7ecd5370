use Rattle.tensor_words.proofs.Products.{product_rule}
use Rattle.tensor_words.proofs.laws.product_rule.Goals as goal

pub returns : goal.returns
returns c = product_rule

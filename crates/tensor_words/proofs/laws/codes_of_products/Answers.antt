use Rattle.tensor_words.proofs.Products.{codes_of_products}
use Rattle.tensor_words.proofs.laws.codes_of_products.Goals as goal

pub returns : goal.returns
returns c = codes_of_products

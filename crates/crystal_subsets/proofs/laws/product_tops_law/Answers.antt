use Rattle.crystal_subsets.proofs.TensorTops.{tops_of_products, listed_tops}
use Rattle.crystal_subsets.proofs.laws.product_tops_law.Goals as goal

pub returns-clause-tops : goal.returns-clause-tops
returns-clause-tops c = tops_of_products

pub returns-clause-listed : goal.returns-clause-listed
returns-clause-listed c = listed_tops

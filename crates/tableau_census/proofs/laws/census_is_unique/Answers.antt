use Rattle.tableau_census.proofs.Theorem.{census_is_unique}
use Rattle.tableau_census.proofs.laws.census_is_unique.Goals as goal

pub returns : goal.returns
returns c = census_is_unique

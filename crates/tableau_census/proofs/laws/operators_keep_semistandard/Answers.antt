use Rattle.tableau_census.proofs.Reached.{operators_keep_semistandard}
use Rattle.tableau_census.proofs.laws.operators_keep_semistandard.Goals as goal

pub returns : goal.returns
returns c = operators_keep_semistandard

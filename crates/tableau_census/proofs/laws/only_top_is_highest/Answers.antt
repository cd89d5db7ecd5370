use Rattle.tableau_census.proofs.Reached.{only_top_is_highest}
use Rattle.tableau_census.proofs.laws.only_top_is_highest.Goals as goal

pub returns : goal.returns
returns c = only_top_is_highest

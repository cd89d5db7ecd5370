use Rattle.tableau_census.proofs.Theorem.{beginnings_are_completed}
use Rattle.tableau_census.proofs.laws.beginnings_are_completed.Goals as goal

pub returns : goal.returns
returns c = beginnings_are_completed

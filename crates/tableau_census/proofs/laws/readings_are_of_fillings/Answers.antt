use Rattle.tableau_census.proofs.Letters.{readings_are_of_fillings}
use Rattle.tableau_census.proofs.laws.readings_are_of_fillings.Goals as goal

pub returns : goal.returns
returns c = readings_are_of_fillings

use Rattle.tableau_reading.proofs.HighestTops.{top_has_rows, top_is_highest}
use Rattle.tableau_reading.proofs.TopWeights.{top_has_weight}
use Rattle.tableau_reading.proofs.laws.top_laws.Goals as goal

pub returns : goal.returns
returns c = record { rows = top_has_rows; highest = top_is_highest; weight = top_has_weight }

use Rattle.graph_history.proofs.Counting.{tally_closes}
use Rattle.graph_history.proofs.laws.tally_closes.Goals as goal

pub returns : goal.returns
returns c = tally_closes

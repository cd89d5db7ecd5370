use Rattle.graph_history.proofs.Histories.{stays_append}
use Rattle.graph_history.proofs.laws.states_stay.Goals as goal

pub returns : goal.returns
returns c = stays_append

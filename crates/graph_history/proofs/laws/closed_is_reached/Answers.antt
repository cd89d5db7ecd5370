use Rattle.graph_history.proofs.Components.{closed_is_reached}
use Rattle.graph_history.proofs.laws.closed_is_reached.Goals as goal

pub returns : goal.returns
returns c = closed_is_reached

use Rattle.graph_history.proofs.Components.{closed_is_components}
use Rattle.graph_history.proofs.laws.closed_is_components.Goals as goal

pub returns : goal.returns
returns c = closed_is_components

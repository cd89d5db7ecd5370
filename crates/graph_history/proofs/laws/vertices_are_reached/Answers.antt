use Rattle.graph_history.proofs.Components.{vertices_are_reached}
use Rattle.graph_history.proofs.laws.vertices_are_reached.Goals as goal

pub returns : goal.returns
returns c = vertices_are_reached

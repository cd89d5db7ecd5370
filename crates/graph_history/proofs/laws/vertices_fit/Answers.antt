use Rattle.graph_history.proofs.Fitting.{vertices_fit}
use Rattle.graph_history.proofs.laws.vertices_fit.Goals as goal

pub returns : goal.returns
returns c = vertices_fit

use Rattle.graph_history.proofs.Fitting.{full_stays}
use Rattle.graph_history.proofs.laws.full_stays.Goals as goal

pub returns : goal.returns
returns c = full_stays

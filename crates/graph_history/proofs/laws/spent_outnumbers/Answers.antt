use Rattle.graph_history.proofs.Components.{spent_outnumbers}
use Rattle.graph_history.proofs.laws.spent_outnumbers.Goals as goal

pub returns : goal.returns
returns c = spent_outnumbers

use Rattle.graph_history.proofs.Counting.{debts_cover}
use Rattle.graph_history.proofs.laws.debts_cover.Goals as goal

pub returns : goal.returns
returns c = debts_cover

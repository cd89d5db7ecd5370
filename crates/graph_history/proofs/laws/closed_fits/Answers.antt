use Rattle.graph_history.proofs.Components.{closed_fits}
use Rattle.graph_history.proofs.laws.closed_fits.Goals as goal

pub returns : goal.returns
returns c = closed_fits

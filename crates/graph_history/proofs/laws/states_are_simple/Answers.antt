use Rattle.graph_history.proofs.SoundStates.{sound}
use Rattle.graph_history.proofs.laws.states_are_simple.Goals as goal

pub returns : goal.returns
returns c = λ w h legal. (sound w h legal).simple

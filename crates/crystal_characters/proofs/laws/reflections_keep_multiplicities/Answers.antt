use Rattle.crystal_characters.proofs.Multiplicities.{reflections_keep_multiplicities}
use Rattle.crystal_characters.proofs.laws.reflections_keep_multiplicities.Goals as goal

pub returns : goal.returns
returns c = reflections_keep_multiplicities

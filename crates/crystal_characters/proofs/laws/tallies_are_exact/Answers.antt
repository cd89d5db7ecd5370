use Rattle.crystal_characters.proofs.Characters.{tallies_are_exact}
use Rattle.crystal_characters.proofs.laws.tallies_are_exact.Goals as goal

pub returns : goal.returns
returns c = tallies_are_exact

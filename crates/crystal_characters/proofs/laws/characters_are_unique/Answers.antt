use Rattle.crystal_characters.proofs.OneCharacter.{characters_are_unique}
use Rattle.crystal_characters.proofs.laws.characters_are_unique.Goals as goal

pub returns : goal.returns
returns c = characters_are_unique

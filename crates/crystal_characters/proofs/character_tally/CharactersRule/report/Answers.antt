use Rattle.crystal_characters.proofs.Characters.{small_tally}
use Rattle.crystal_characters.proofs.character_tally.CharactersRule.report.Goals as goal

pub push_multiplicities-requires : goal.push_multiplicities-requires
push_multiplicities-requires c = rw (c.in_ok-tally.ensures, c.in_ok-weights.ensures) (small_tally c.args.items.now c.requires)

use Rattle.std.proofs.Common.{◌≡◌, take}
use Rattle.crystal_characters.specs.Characters.{tally}
use Rattle.crystal_characters.proofs.tallies.tally_of.Given as goal

abbrev pub invariant-weights : goal.invariant-weights
invariant-weights l = l.list.items ≡ tally (take l.weight-index l.weight-items)

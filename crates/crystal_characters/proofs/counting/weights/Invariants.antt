use Rattle.std.proofs.Common.{◌≡◌, map, take}
use Rattle.crystal_characters.specs.Characters.{code_weight}
use Rattle.crystal_characters.proofs.counting.weights.Given as goal

abbrev pub invariant-ranks : goal.invariant-ranks
invariant-ranks l = l.list.items ≡ map (code_weight l.finished.space) (take l.rank l.finished.codes)

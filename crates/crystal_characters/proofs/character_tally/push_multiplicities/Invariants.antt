use Rattle.std.proofs.Common.{◌≡◌, ◌++◌, take}
use Rattle.crystal_characters.specs.Reports.{multiplicity_lines}
use Rattle.crystal_characters.proofs.character_tally.push_multiplicities.Given as goal

abbrev pub invariant-weights : goal.invariant-weights
invariant-weights l = l.out.items ≡ l.fn.out.items ++ multiplicity_lines (take l.k l.character)

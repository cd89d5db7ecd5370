use Rattle.std.proofs.Common.{◌≡◌, ◌++◌}
use Rattle.crystal_characters.specs.Reports.{string_lines}
use Rattle.crystal_characters.proofs.string_tally.push_strings.Given as goal

abbrev pub invariant-indices : goal.invariant-indices
invariant-indices l = l.out.items ≡ l.fn.out.items ++ string_lines l.items l.place

use Rattle.std.proofs.Common.{◌+◌}
use Rattle.signature_rule.proofs.Lifting.{AllEnded}
use Rattle.signature_rule.proofs.raising.least_raise.Given as goal

abbrev pub invariant-indices : goal.invariant-indices
invariant-indices l = AllEnded l.space l.word (l.place + 1)

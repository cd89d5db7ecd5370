use Rattle.signature_rule.proofs.PassSteps.{IsLowerPass}
use Rattle.signature_rule.proofs.brackets.last_closing.Given as goal

abbrev pub invariant-rightmost : goal.invariant-rightmost
invariant-rightmost l = IsLowerPass l.space l.i l.word l.place l.unclosed l.last

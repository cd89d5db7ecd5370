use Rattle.signature_rule.proofs.PassSteps.{IsEpsPass}
use Rattle.signature_rule.proofs.brackets.opening_left.Given as goal

abbrev pub invariant-factors : goal.invariant-factors
invariant-factors l = IsEpsPass l.space l.i l.word l.place l.open

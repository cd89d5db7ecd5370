use Rattle.std.proofs.Common.{◌≤◌, length}
use Rattle.signature_rule.proofs.PassSteps.{IsRaisePass}
use Rattle.signature_rule.proofs.brackets.first_opening.Given as goal

abbrev pub invariant-leftmost : goal.invariant-leftmost
invariant-leftmost l = (l.place ≤ length l.space.factors) × IsRaisePass l.space l.i l.word l.place l.unopened l.first

abbrev pub decreases-leftmost : goal.decreases-leftmost
decreases-leftmost l = l.place

use Rattle.std.proofs.Common.{◌≤◌, length}
use Rattle.signature_rule.proofs.PassSteps.{IsPhiPass}
use Rattle.signature_rule.proofs.brackets.closing_left.Given as goal

abbrev pub invariant-factors : goal.invariant-factors
invariant-factors l = (l.place ≤ length l.space.factors) × IsPhiPass l.space l.i l.word l.place l.left

abbrev pub decreases-factors : goal.decreases-factors
decreases-factors l = l.place

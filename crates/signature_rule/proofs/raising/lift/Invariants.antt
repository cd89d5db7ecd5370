use Rattle.tensor_words.proofs.KeptWords.{digit_sum}
use Rattle.signature_rule.proofs.Lifting.{IsLifting}
use Rattle.signature_rule.proofs.raising.lift.Given as goal

abbrev pub invariant-raises : goal.invariant-raises
invariant-raises l = IsLifting l.space l.fn.word l.top l.raises

abbrev pub decreases-raises : goal.decreases-raises
decreases-raises l = digit_sum l.top

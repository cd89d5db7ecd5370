use Rattle.tensor_words.proofs.Sums.{IsWeighed}
use Rattle.tensor_words.proofs.spaces.Space.weight.Given as goal

abbrev pub invariant-loop-place : goal.invariant-loop-place
invariant-loop-place l = IsWeighed l.self l.word l.place l.weight

abbrev pub decreases-loop-place : goal.decreases-loop-place
decreases-loop-place l = l.place

use Rattle.tensor_words.proofs.Sums.{IsWeighed}
use Rattle.tensor_words.proofs.steps.Steps.weight.Given as goal

abbrev pub invariant-places : goal.invariant-places
invariant-places l = IsWeighed l.self l.word l.place l.weight

abbrev pub decreases-places : goal.decreases-places
decreases-places l = l.place

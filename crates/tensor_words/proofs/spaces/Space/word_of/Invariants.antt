use Rattle.tensor_words.specs.Spaces.{sizes}
use Rattle.tensor_words.proofs.Digits.{IsWritten}
use Rattle.tensor_words.proofs.spaces.Space.word_of.Given as goal

abbrev pub invariant-loop-place : goal.invariant-loop-place
invariant-loop-place l = IsWritten (sizes l.self) l.word l.place l.rest l.code

abbrev pub decreases-loop-place : goal.decreases-loop-place
decreases-loop-place l = l.place

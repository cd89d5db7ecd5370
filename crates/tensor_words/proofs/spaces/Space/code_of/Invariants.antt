use Rattle.tensor_words.proofs.SpaceWords.{IsRead}
use Rattle.tensor_words.proofs.spaces.Space.code_of.Given as goal

abbrev pub invariant-loop-place : goal.invariant-loop-place
invariant-loop-place l = IsRead l.self l.word l.place l.code

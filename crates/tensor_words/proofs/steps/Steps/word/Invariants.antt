use Rattle.tensor_words.specs.Spaces.{sizes}
use Rattle.tensor_words.proofs.PlaceValues.{IsSplit}
use Rattle.tensor_words.proofs.steps.Steps.word.Given as goal

abbrev pub invariant-places : goal.invariant-places
invariant-places l = IsSplit (sizes l.self-inside.space) l.digits l.place l.rest l.code

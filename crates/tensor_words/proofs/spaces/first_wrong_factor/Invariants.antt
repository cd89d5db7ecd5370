use Rattle.std.proofs.Common.{◌≡◌, ◌+◌, drop}
use Rattle.tensor_words.specs.Spaces.{wrong_place}
use Rattle.tensor_words.proofs.spaces.first_wrong_factor.Given as goal

abbrev pub invariant-loop-place : goal.invariant-loop-place
invariant-loop-place l = wrong_place l.kind 1 l.factors ≡ wrong_place l.kind (l.place + 1) (drop l.place l.factors)

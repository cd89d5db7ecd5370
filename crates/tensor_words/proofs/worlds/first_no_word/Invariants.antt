use Rattle.std.proofs.Common.{◌≡◌, ◌+◌, drop}
use Rattle.tensor_words.specs.Worlds.{place_of_no_word}
use Rattle.tensor_words.proofs.worlds.first_no_word.Given as goal

abbrev pub invariant-loop-place : goal.invariant-loop-place
invariant-loop-place l = place_of_no_word l.size 1 l.codes ≡ place_of_no_word l.size (l.place + 1) (drop l.place l.codes)

use Rattle.std.proofs.Common.{◌≡◌, ◌+◌, drop, get_or}
use Rattle.tensor_words.specs.Worlds.{place_of_no_rise, place_of_no_rise_after}
use Rattle.tensor_words.proofs.worlds.first_no_rise.Given as goal

abbrev pub invariant-loop-place : goal.invariant-loop-place
invariant-loop-place l =
    place_of_no_rise l.codes ≡ place_of_no_rise_after (l.place + 1) (get_or l.codes l.place 0) (drop (l.place + 1) l.codes)

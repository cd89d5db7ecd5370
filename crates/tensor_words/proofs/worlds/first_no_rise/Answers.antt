use Rattle.std.proofs.Common.{◌∙◌, ◌+◌, ap, get_or, arith}
use Rattle.std.proofs.lemmas.List.{drop_all}
use Rattle.tensor_words.specs.Worlds.{place_of_no_rise_after}
use Rattle.tensor_words.proofs.Rising.{rising_from_first}
use Rattle.tensor_words.proofs.worlds.first_no_rise.Goals as goal

pub returns-clause-ascending : goal.returns-clause-ascending
returns-clause-ascending c = λ none.
    rising_from_first c.args.codes.now
    (c.loop-place.invariant
    ∙ ap (place_of_no_rise_after (c.loop-place.place + 1) (get_or c.args.codes.now c.loop-place.place 0))
    (drop_all (c.loop-place.place + 1) c.args.codes.now (omega arith)))

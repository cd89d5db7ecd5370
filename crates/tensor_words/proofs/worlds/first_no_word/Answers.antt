use Rattle.std.proofs.Common.{◌∙◌, ◌+◌, ap}
use Rattle.std.proofs.lemmas.List.{drop_all}
use Rattle.tensor_words.specs.Worlds.{place_of_no_word}
use Rattle.tensor_words.proofs.Rising.{words_from_place}
use Rattle.tensor_words.proofs.worlds.first_no_word.Goals as goal

pub returns-clause-words : goal.returns-clause-words
returns-clause-words c = λ none.
    words_from_place c.args.size 1 c.args.codes.now
    (c.loop-place.invariant ∙ ap (place_of_no_word c.args.size (c.loop-place.place + 1)) (drop_all c.loop-place.place c.args.codes.now c.loop-place-test.false))

use Rattle.std.proofs.Common.{◌∙◌, ◌+◌, ap}
use Rattle.std.proofs.lemmas.List.{drop_all}
use Rattle.tensor_words.specs.Spaces.{wrong_place}
use Rattle.tensor_words.proofs.Sizes.{had_from_place}
use Rattle.tensor_words.proofs.spaces.first_wrong_factor.Goals as goal

pub returns-clause-had : goal.returns-clause-had
returns-clause-had c = λ none.
    had_from_place c.args.kind 1 c.args.factors.now
    (c.loop-place.invariant ∙ ap (wrong_place c.args.kind (c.loop-place.place + 1)) (drop_all c.loop-place.place c.args.factors.now c.loop-place-test.false))

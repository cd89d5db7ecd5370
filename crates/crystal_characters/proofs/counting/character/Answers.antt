use Rattle.std.proofs.Common.{◌≡◌, ◌∙◌, sym, ap, subst}
use Rattle.std.proofs.lemmas.Result.{IfOk-weaker}
use Rattle.crystal_characters.specs.Characters.{IsCharacter, tally}
use Rattle.crystal_characters.proofs.Characters.{tally_is_character}
use Rattle.crystal_characters.proofs.counting.character.Goals as goal

pub returns-clause-character : goal.returns-clause-character
returns-clause-character c =
    let f = c.args.finished.now in
    IfOk-weaker c.tally_of.result (λ ms. ms ≡ tally c.in_ok-weights.field-0.items) (IsCharacter f) (λ ms is.
    subst (IsCharacter f) (sym (is ∙ ap tally c.in_ok-weights.ensures)) (tally_is_character f)) c.tally_of.ensures

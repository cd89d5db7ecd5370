use Rattle.std.proofs.Common.{◌≡◌, ◌∙◌, sym, Some, w8, to_z, of_z, rules}
use Rattle.std.proofs.lemmas.Int.{to_z-of_z}
use Rattle.tableau_reading.specs.Tokens.{letter_value}
use Rattle.tableau_reading.proofs.LetterTexts.{letter_known, letter_unknown}
use Rattle.tableau_reading.proofs.parsing.read_letter.Goals as goal

pub returns-then-is_letter-clause-value : goal.returns-then-is_letter-clause-value
returns-then-is_letter-clause-value c =
    let value : letter_value c.args.token.now ≡ Some c.in_ok-value.value = sym c.letter_value.ensures ∙ c.in_ok-value.was in
    let same : to_z w8 (of_z w8 c.in_ok-value.value) ≡ c.in_ok-value.value = to_z-of_z w8 c.in_ok-value.value (search rules) in
    rw (value, ← same) (letter_known c.args.cartan (to_z w8 (of_z w8 c.in_ok-value.value)) c.letter_digit.result c.base_size-classical.ensures.classical c.letter_digit.ensures.value c.letter_digit.ensures.below)

pub returns-else-is_letter-clause-value : goal.returns-else-is_letter-clause-value
returns-else-is_letter-clause-value c =
    let value : letter_value c.args.token.now ≡ Some c.in_ok-value.value = sym c.letter_value.ensures ∙ c.in_ok-value.was in
    let same : to_z w8 (of_z w8 c.in_ok-value.value) ≡ c.in_ok-value.value = to_z-of_z w8 c.in_ok-value.value (search rules) in
    rw (value, ← same) (letter_unknown c.args.cartan (to_z w8 (of_z w8 c.in_ok-value.value)) (λ there. cc (c.is_letter.ensures.1 there)))

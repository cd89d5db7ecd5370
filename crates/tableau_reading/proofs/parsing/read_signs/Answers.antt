use Rattle.std.proofs.Common.{◌≡◌, ◌∙◌, sym, ap, Some, option_map, arith}
use Rattle.spin_crystals.specs.Signs.{vector_of}
use Rattle.text_pieces.specs.Numbers.{all_some}
use Rattle.tableau_reading.specs.Tokens.{sign_of}
use Rattle.tableau_reading.proofs.SignTexts.{wrong_size, half_read}
use Rattle.tableau_reading.proofs.parsing.read_signs.Goals as goal

pub returns-then-token-from-clause-value : goal.returns-then-token-from-clause-value
returns-then-token-from-clause-value c = wrong_size c.args.cartan c.args.half c.args.token.now (λ same. omega arith)

pub returns-then-is_of_half-clause-value : goal.returns-then-is_of_half-clause-value
returns-then-is_of_half-clause-value c =
    let read : Some (vector_of c.in_ok-signs.signs) ≡ all_some sign_of c.args.token.now = ap (option_map vector_of) (sym c.in_ok-signs.was) ∙ c.signs_of.ensures.value in
    ap Some c.signs_digit.ensures.value
    ∙ half_read c.args.cartan c.args.half c.args.token.now (vector_of c.in_ok-signs.signs) _ read (omega arith) c.if-is_of_half.ensures

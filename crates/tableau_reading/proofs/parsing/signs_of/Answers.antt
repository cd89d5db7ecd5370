use Rattle.std.proofs.Common.{◌≡◌, ◌∙◌, sym, ap, rules, arith, ◌==◌, Some, option_map, get_or}
use Rattle.std.proofs.lemmas.Nat.{pow-add}
use Rattle.tableau_reading.specs.Tokens.{sign_of}
use Rattle.tableau_reading.proofs.SignTexts.{sign_taken}
use Rattle.tableau_reading.proofs.parsing.signs_of.Goals as goal

pub signs-preserved : goal.signs-preserved
signs-preserved c =
    let good : sign_of (get_or c.args.text.now c.signs.byte-index 0) ≡ Some (c.in_ok-bit.bit == 1) = sym c.sign_bit.ensures.value ∙ ap (option_map (λ bit. bit == 1)) c.in_ok-bit.was in
    record {
      read = sign_taken c.args.text.now c.signs.byte-index c.signs.bits c.in_ok-bit.bit _ (omega arith) c.in_ok-bit.ensures.below good (search rules) c.signs.invariant.read;
      below = omega (arith, pow-add 2 c.signs.byte-index 1, c.in_ok-bit.ensures.below);
    }

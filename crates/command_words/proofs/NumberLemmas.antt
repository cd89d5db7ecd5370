-- What the parse of a numeral says of `number_in`.
use Rattle.std.proofs.Common.{◌≡◌, ◌<◌, ◌≤◌, ◌^◌, ℕ, Bool, true, false, refl, sym, arith, List, length, None, Result, Err, ◌&&◌, rules, leb-true, true≢false}
use Rattle.std.proofs.lemmas.Bool.{and_parts}
use Rattle.std.specs.List.{list_all}
use Rattle.std.specs.Char.{is_ascii_digit}
use Rattle.std.specs.Str.Parse.{ParsesUnsigned, digits_value}
use Rattle.std.proofs.lemmas.Str.Parse.{IsNumeralModel, numerals_by_value, parse_digits}
use Rattle.command_words.specs.Number.{is_between, is_numeral, number_in}

own : IsNumeralModel (λ ds. list_all is_ascii_digit ds ≡ true) (digits_value 10)
own = numerals_by_value _ (search rules)

-- a text of digits that is refused writes too large a number
pub none_parsed : {E : Type 0} (most low high : ℕ) (text : List ℕ) (r : Result ℕ E) (e : E) → high < 2 ^ 32 → ParsesUnsigned 32 10 text r → r ≡ Err e → is_numeral most text ≡ true
    → None ≡ number_in most low high text
none_parsed most low high text r e top parsed refused numeral = go (is_between low high (digits_value 10 text)) refl
  where
    go : (fits : Bool) → is_between low high (digits_value 10 text) ≡ fits → None ≡ number_in most low high text
    go false is = rw (numeral, is) refl
    go true is =
        let parts = and_parts _ _ numeral in
        let long : 1 ≤ length text = leb-true _ _ (and_parts _ _ parts.0).0 in
        let range : digits_value 10 text ≤ high = leb-true _ _ (and_parts _ _ is).1 in
        let some : 0 < length text = omega arith in
        let small : digits_value 10 text < 2 ^ 32 = omega arith in
        absurd (rw refused at (parse_digits own 32 text r parsed parts.1) (some, small))

-- The value of decimal digits.
use Rattle.std.proofs.Common.{◌≡◌, ℕ, ◌+◌, ◌-◌, ◌*◌, ◌^◌, ◌<◌, ◌≤◌, true, List, [], ◌∷◌, length, ap, lit<, rules, arith}
use Rattle.std.specs.Prelude.{nat_le, ◌&&◌, decimal, Some}
use Rattle.std.specs.Char.{is_ascii_digit}
use Rattle.std.specs.List.{list_all}
use Rattle.std.proofs.lemmas.Bool.{and_parts, leb-true, le-leb}
use Rattle.std.proofs.lemmas.Option.{cond_some}
use Rattle.std.proofs.lemmas.Str.Parse.{IsNumeralModel, numerals_by_fold}
use Rattle.std.proofs.lemmas.Fmt.{decimal_is_IsNumeral, digits_value-decimal, length-decimal-le}
use Rattle.std.proofs.Math.Nat.{mul-le-mul_right, mul_assoc, pow-succ', pow-le-pow_right}
use Rattle.text_pieces.specs.Numbers.{value_from, are_digits, number_of}

-- k further digits of a number stay below the next number with k zeros
pub value_from_below : (number : ℕ) (digits : List ℕ) → list_all is_ascii_digit digits ≡ true → value_from number digits < (number + 1) * 10 ^ length digits
value_from_below number [] good = omega arith
value_from_below number (digit ∷ digits) good =
    let (here, there) = and_parts (is_ascii_digit digit) (list_all is_ascii_digit digits) good in
    let low : digit ≤ 57 = leb-true digit 57 (and_parts (nat_le 48 digit) (nat_le digit 57) here).1 in
    let rest = value_from_below (10 * number + (digit - 48)) digits there in
    let most : (10 * number + (digit - 48) + 1) * 10 ^ length digits ≤ ((number + 1) * 10) * 10 ^ length digits =
    mul-le-mul_right (10 ^ length digits) (omega arith) in
    rw (pow-succ' 10 (length digits), ← mul_assoc (number + 1) 10 (10 ^ length digits)) (omega arith)

-- a number of at most nine digits is below 10 ^ 9
pub number_below : (word : List ℕ) (number : ℕ) → number_of word ≡ Some number → number < 10 ^ 9
number_below word number read =
    let (good, same) = cond_some (are_digits 9 word) (value_from 0 word) number read in
    let (sized, digits) = and_parts (nat_le 1 (length word) && nat_le (length word) 9) (list_all is_ascii_digit word) good in
    let short : length word ≤ 9 = leb-true (length word) 9 (and_parts (nat_le 1 (length word)) (nat_le (length word) 9) sized).1 in
    let value = value_from_below 0 word digits in
    let most : 10 ^ length word ≤ 10 ^ 9 = pow-le-pow_right (lit< tt) short in
    omega arith

-- `value_from` is the value of decimal digits
own : IsNumeralModel (λ ds. list_all is_ascii_digit ds ≡ true) (value_from 0)
own = numerals_by_fold _ (search rules) value_from (search rules)

-- a number that is printed is read back
pub number_printed : (number : ℕ) → number < 10 ^ 9 → number_of (decimal number) ≡ Some number
number_printed number small =
    let fits : number < 2 ^ 64 = omega arith in
    let (filled, digits) = (decimal_is_IsNumeral number fits).0 in
    let good : list_all is_ascii_digit (decimal number) ≡ true = own.from (decimal number) digits in
    let low : nat_le 1 (length (decimal number)) ≡ true = le-leb 1 (length (decimal number)) filled in
    let high : nat_le (length (decimal number)) 9 ≡ true = le-leb (length (decimal number)) 9 (length-decimal-le 9 number (lit< tt) small fits) in
    rw (low, high, good) (ap Some (digits_value-decimal own number fits))

-- Numbers among command words.
use Rattle.std.specs.Prelude.{ℕ, Bool, ◌&&◌, List, length, nat_le, Option, Some, None}
use Rattle.std.specs.Prelude.{if◌then◌else◌}
use Rattle.std.specs.Char.{is_ascii_digit}
use Rattle.std.specs.List.{list_all}
use Rattle.std.specs.Str.Parse.{digits_value}

-- the number is at least low and at most high
abbrev pub is_between : ℕ → ℕ → ℕ → Bool
is_between low high number = nat_le low number && nat_le number high

-- the text is decimal digits, at least one and at most so many
abbrev pub is_numeral : ℕ → List ℕ → Bool
is_numeral most text = is_between 1 most (length text) && list_all is_ascii_digit text

-- the number that at most so many decimal digits write, where it is between low and high
abbrev pub number_in : ℕ → ℕ → ℕ → List ℕ → Option ℕ
number_in most low high text =
    if is_numeral most text && is_between low high (digits_value 10 text)
    then Some (digits_value 10 text) else None

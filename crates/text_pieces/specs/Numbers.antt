-- How a word is read as a decimal number.
use Rattle.std.specs.Prelude.{ℕ, ◌+◌, ◌-◌, ◌*◌, Bool, ◌&&◌, nat_le, if◌then◌else◌, List, [], ◌∷◌, length, Option, Some, None}
use Rattle.std.specs.Char.{is_ascii_digit}
use Rattle.std.specs.List.{list_all}

-- whether a word has one to `most` bytes, and each is a decimal digit, 48 to 57
abbrev pub are_digits : ℕ → List ℕ → Bool
are_digits most word = nat_le 1 (length word) && nat_le (length word) most && list_all is_ascii_digit word

-- what a number becomes when further digits are written behind it
abbrev pub value_from : ℕ → List ℕ → ℕ
value_from number [] = number
value_from number (byte ∷ bytes) = value_from (10 * number + (byte - 48)) bytes

-- the value of a word of one to `most` digits
abbrev pub read_digits : ℕ → List ℕ → Option ℕ
read_digits most word = if are_digits most word then Some (value_from 0 word) else None

-- the number that a word of one to nine digits is
abbrev pub number_of : List ℕ → Option ℕ
number_of word = read_digits 9 word

-- a first element and the rest, where both are there
abbrev pub both : {B : Type 0} → Option B → Option (List B) → Option (List B)
both None rest = None
both (Some first) None = None
both (Some first) (Some rest) = Some (first ∷ rest)

-- what a reading gives of each element of a list, where it gives something of all of them
abbrev pub all_some : {A B : Type 0} → (A → Option B) → List A → Option (List B)
all_some read [] = Some []
all_some read (x ∷ xs) = both (read x) (all_some read xs)

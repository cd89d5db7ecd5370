-- How words are read.
use Rattle.std.specs.Prelude.{ℕ, ◌+◌, ◌==◌, ◌&&◌, nat_lt, Bool, if◌then◌else◌, List, [], ◌∷◌, length, ℤ, pos, neg_ℤ, Option, Some, None, option_map, option_and_then, Result, Ok, Err}
use Rattle.crystal_cartan.specs.Types.{CartanType}
use Rattle.vector_crystals.specs.Letters.{letters, letter_digit}
use Rattle.spin_crystals.specs.Signs.{plus, minus, is_of_half, signs_digit}
use Rattle.spin_crystals.specs.declared.signs.Half.{Half}
use Rattle.spin_crystals.specs.declared.signs.Half.TheVariants.{Whole, Plus, Minus}
use Rattle.tensor_words.specs.declared.spaces.Factor.{Factor}
use Rattle.tensor_words.specs.declared.spaces.Factor.TheVariants.{Vector, Spin, SpinPlus, SpinMinus}
use Rattle.tensor_words.specs.Spaces.{SpaceType}
use Rattle.text_pieces.specs.Numbers.{read_digits, all_some}
use Rattle.tableau_reading.specs.declared.parsing.WordFault.{WordFault}
use Rattle.tableau_reading.specs.declared.parsing.WordFault.TheVariants.{WrongLength, NoLetter, BadSigns}

-- minus a number, where it is not 0
abbrev pub negated : ℕ → Option ℤ
negated n = if n == 0 then None else Some (neg_ℤ (pos n))

-- the number that a letter's token stands for: one or two digits, or - and then one or two digits that are not 0
abbrev pub letter_value : List ℕ → Option ℤ
letter_value [] = None
letter_value (byte ∷ bytes) =
    if byte == 45 then option_and_then negated (read_digits 2 bytes) else option_map (λ n. pos n) (read_digits 2 (byte ∷ bytes))

-- the digit of a number that is a letter of the type
abbrev pub digit_if_letter : CartanType → ℤ → Option ℕ
digit_if_letter t x = if nat_lt (letter_digit t x) (length (letters t)) then Some (letter_digit t x) else None

-- the sign that a byte is
abbrev pub sign_of : ℕ → Option Bool
sign_of byte = if byte == 43 then Some plus else if byte == 45 then Some minus else None

-- the digit of a vector, where it has r signs and is of the half
abbrev pub digit_of_signs : CartanType → Half → List Bool → Option ℕ
digit_of_signs t half v = if (length v == t.rank) && is_of_half half v then Some (signs_digit half v) else None

-- the digit of the vector that a sign token stands for
abbrev pub read_signs : CartanType → Half → List ℕ → Option ℕ
read_signs t half token = option_and_then (digit_of_signs t half) (all_some sign_of token)

-- the digit of the element that a token stands for
unfoldable pub token_digit : CartanType → Factor → List ℕ → Option ℕ
token_digit t Vector token = option_and_then (digit_if_letter t) (letter_value token)
token_digit t Spin token = read_signs t Whole token
token_digit t SpinPlus token = read_signs t Plus token
token_digit t SpinMinus token = read_signs t Minus token

-- the fault of a token that stands for no element
abbrev pub bad_token : Factor → ℕ → WordFault
bad_token Vector place = NoLetter place
bad_token Spin place = BadSigns place
bad_token SpinPlus place = BadSigns place
bad_token SpinMinus place = BadSigns place

-- a first digit and those behind it, or the fault
abbrev pub with_digit : ℕ → Result (List ℕ) WordFault → Result (List ℕ) WordFault
with_digit d (Ok ds) = Ok (d ∷ ds)
with_digit d (Err fault) = Err fault

abbrev pub first_digit : WordFault → Option ℕ → Result (List ℕ) WordFault → Result (List ℕ) WordFault
first_digit fault None rest = Err fault
first_digit fault (Some d) rest = with_digit d rest

-- the digits of as many tokens as there are factors, the first of them at this place, or the fault of the first bad one
abbrev pub digits_from : CartanType → ℕ → List Factor → List (List ℕ) → Result (List ℕ) WordFault
digits_from t place [] tokens = Ok []
digits_from t place (f ∷ fs) [] = Ok []
digits_from t place (f ∷ fs) (token ∷ tokens) =
    first_digit (bad_token f place) (token_digit t f token) (digits_from t (place + 1) fs tokens)

-- the word that tokens stand for, by digits, or the first fault; places count from 1
unfoldable pub word_read : SpaceType → List (List ℕ) → Result (List ℕ) WordFault
word_read s tokens = if length tokens == length s.factors then digits_from s.cartan 1 s.factors tokens else Err WrongLength

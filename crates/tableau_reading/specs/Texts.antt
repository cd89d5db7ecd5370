-- How words and weights are printed.
use Rattle.std.specs.Prelude.{ℕ, suc, ◌/◌, ◌%◌, ◌==◌, Bool, if◌then◌else◌, List, [], ◌∷◌, ◌++◌, map, ℤ, pos, negsuc, decimal}
use Rattle.std.specs.Fmt.{signed_decimal}
use Rattle.crystal_cartan.specs.Types.{CartanType}
use Rattle.vector_crystals.specs.Letters.{letter_at}
use Rattle.spin_crystals.specs.Signs.{signs_at}
use Rattle.spin_crystals.specs.declared.signs.Half.TheVariants.{Whole, Plus, Minus}
use Rattle.tensor_words.specs.declared.spaces.Factor.{Factor}
use Rattle.tensor_words.specs.declared.spaces.Factor.TheVariants.{Vector, Spin, SpinPlus, SpinMinus}
use Rattle.tensor_words.specs.Spaces.{SpaceType}
use Rattle.text_pieces.specs.Pieces.{spaced}

-- a sign is the byte + or -
abbrev pub sign_byte : Bool → ℕ
sign_byte is_minus = if is_minus then 45 else 43

abbrev pub signs_text : List Bool → List ℕ
signs_text v = map sign_byte v

-- the element of a factor with this digit: a letter in decimal, or its signs
unfoldable pub token : CartanType → Factor → ℕ → List ℕ
token t Vector d = signed_decimal (letter_at t d)
token t Spin d = signs_text (signs_at Whole t.rank d)
token t SpinPlus d = signs_text (signs_at Plus t.rank d)
token t SpinMinus d = signs_text (signs_at Minus t.rank d)

-- the blank in front of a token, but for the one at place 0
abbrev pub blank_before : ℕ → List ℕ
blank_before n = if n == 0 then [] else 32 ∷ []

-- one token for each factor
abbrev pub tokens_along : CartanType → List Factor → List ℕ → List (List ℕ)
tokens_along t [] ds = []
tokens_along t (f ∷ fs) [] = []
tokens_along t (f ∷ fs) (d ∷ ds) = token t f d ∷ tokens_along t fs ds

abbrev pub tokens : SpaceType → List ℕ → List (List ℕ)
tokens s w = tokens_along s.cartan s.factors w

-- a word: its tokens with single blanks between them
unfoldable pub word_text : SpaceType → List ℕ → List ℕ
word_text s w = spaced (tokens s w)

-- half of n: n / 2 in decimal, or where n is odd n in decimal and then /2
abbrev pub half_text : ℕ → List ℕ
half_text n = if n % 2 == 0 then decimal (n / 2) else decimal n ++ 47 ∷ 50 ∷ []

-- a coordinate, which is kept doubled
unfoldable pub coordinate_text : ℤ → List ℕ
coordinate_text (pos n) = half_text n
coordinate_text (negsuc n) = 45 ∷ half_text (suc n)

-- a weight: its coordinates with single blanks between them
unfoldable pub weight_text : List ℤ → List ℕ
weight_text w = spaced (map coordinate_text w)

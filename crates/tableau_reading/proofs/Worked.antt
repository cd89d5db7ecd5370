-- Worked values of the definitions.
use Rattle.std.proofs.Common.{◌≡◌, refl, ℕ, [], ◌∷◌, pos, negsuc, Some, None, Ok, Err}
use Rattle.std.specs.Prelude.{codes}
use Rattle.crystal_cartan.specs.Types.{CartanType}
use Rattle.crystal_cartan.specs.declared.types.Kind.{Kind}
use Rattle.crystal_cartan.specs.declared.types.Kind.TheVariants.{A, B, C, D}
use Rattle.vector_crystals.specs.Letters.{letters}
use Rattle.tensor_words.specs.declared.spaces.Factor.TheVariants.{Vector, Spin, SpinPlus, SpinMinus}
use Rattle.tensor_words.specs.declared.spaces.Order.TheVariants.{Kashiwara}
use Rattle.tensor_words.specs.Spaces.{SpaceType, tensor_space, base_size}
use Rattle.tensor_words.specs.Codes.{code_of}
use Rattle.text_pieces.specs.Pieces.{words}
use Rattle.tableau_reading.specs.declared.parsing.WordFault.TheVariants.{WrongLength, NoLetter, BadSigns}
use Rattle.tableau_reading.specs.declared.shapes.ShapeFault.TheVariants.{Empty, NotFalling, TooTall, TooManyBoxes}
use Rattle.tableau_reading.specs.Shapes.{tableau_shape, shape_in, shape_of, shape_weight}
use Rattle.tableau_reading.specs.Readings.{top_word}
use Rattle.tableau_reading.specs.Tokens.{letter_value, token_digit, word_read}

abbrev typed : Kind → ℕ → CartanType
typed k r = record { kind = k; rank = r }

-- in A_3 the shape 3 2 1 has the top word 3 2 1 2 1 1, here by digits, and the weight 3 2 1 0, doubled
top_of_staircase : top_word (tableau_shape (typed A 3) (3 ∷ 2 ∷ 1 ∷ [])) ≡ 2 ∷ 1 ∷ 0 ∷ 1 ∷ 0 ∷ 0 ∷ []
unfolding top_word
top_of_staircase = refl

-- in Kashiwara's order from the other end
top_from_the_end : top_word (shape_in Kashiwara (tableau_shape (typed A 3) (3 ∷ 2 ∷ 1 ∷ []))) ≡ 0 ∷ 0 ∷ 1 ∷ 0 ∷ 1 ∷ 2 ∷ []
unfolding top_word
top_from_the_end = refl

weight_of_staircase : shape_weight (tableau_shape (typed A 3) (3 ∷ 2 ∷ 1 ∷ [])) ≡ pos 6 ∷ pos 4 ∷ pos 2 ∷ pos 0 ∷ []
weight_of_staircase = refl

no_row : shape_of (typed A 2) [] ≡ Err Empty
unfolding shape_of
no_row = refl

rising_rows : shape_of (typed A 2) (1 ∷ 2 ∷ []) ≡ Err NotFalling
unfolding shape_of
rising_rows = refl

four_rows : shape_of (typed C 3) (1 ∷ 1 ∷ 1 ∷ 1 ∷ []) ≡ Err TooTall
unfolding shape_of
four_rows = refl

many_boxes : shape_of (typed A 1) (41 ∷ []) ≡ Err TooManyBoxes
unfolding shape_of
many_boxes = refl

many_words : shape_of (typed C 4) (22 ∷ []) ≡ Err TooManyBoxes
unfolding shape_of
many_words = refl

-- as many rows as a weight has coordinates, which in type A is one more than the rank
three_rows : shape_of (typed A 2) (1 ∷ 1 ∷ 1 ∷ []) ≡ Ok (tableau_shape (typed A 2) (1 ∷ 1 ∷ 1 ∷ []))
unfolding shape_of
three_rows = refl

taken : shape_of (typed C 4) (21 ∷ []) ≡ Ok (tableau_shape (typed C 4) (21 ∷ []))
unfolding shape_of
taken = refl

-- letters
minus_zero : letter_value (codes "-0") ≡ None
minus_zero = refl

minus_zeros : letter_value (codes "-00") ≡ None
minus_zeros = refl

three_digits : letter_value (codes "001") ≡ None
three_digits = refl

plus_one : letter_value (codes "+1") ≡ None
plus_one = refl

zero_one : letter_value (codes "01") ≡ Some (pos 1)
zero_one = refl

minus_one : letter_value (codes "-01") ≡ Some (negsuc 0)
minus_one = refl

zeros_of_b : token_digit (typed B 2) Vector (codes "00") ≡ Some 2
unfolding token_digit letters
zeros_of_b = refl

-- words
abbrev mixed : SpaceType
mixed = tensor_space (typed B 2) (Spin ∷ Vector ∷ [])

mixed_word : word_read mixed (words (codes "+- 0")) ≡ Ok (1 ∷ 2 ∷ [])
unfolding word_read token_digit letters
mixed_word = refl

mixed_code : code_of mixed (1 ∷ 2 ∷ []) ≡ 7
unfolding code_of base_size
mixed_code = refl

no_letter : word_read mixed (words (codes "++ 3")) ≡ Err (NoLetter 2)
unfolding word_read token_digit letters
no_letter = refl

bad_signs : word_read mixed (words (codes "+ 0")) ≡ Err (BadSigns 1)
unfolding word_read token_digit letters
bad_signs = refl

wrong_length : word_read mixed (words (codes "++")) ≡ Err WrongLength
unfolding word_read token_digit letters
wrong_length = refl

half_word : word_read (tensor_space (typed D 3) (SpinPlus ∷ [])) (words (codes "+--")) ≡ Ok (1 ∷ [])
unfolding word_read token_digit letters
half_word = refl

other_half : word_read (tensor_space (typed D 3) (SpinPlus ∷ [])) (words (codes "+-+")) ≡ Err (BadSigns 1)
unfolding word_read token_digit letters
other_half = refl

-- the odd half
odd_word : word_read (tensor_space (typed D 3) (SpinMinus ∷ [])) (words (codes "+-+")) ≡ Ok (1 ∷ [])
unfolding word_read token_digit letters
odd_word = refl

even_word : word_read (tensor_space (typed D 3) (SpinMinus ∷ [])) (words (codes "+--")) ≡ Err (BadSigns 1)
unfolding word_read token_digit letters
even_word = refl

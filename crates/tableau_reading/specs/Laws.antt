-- Laws of shapes and of texts.
use Rattle.std.specs.Prelude.{◌≡◌, ℕ, ◌+◌, List, map, pos, Ok}
use Rattle.crystal_cartan.specs.Types.{HasIndex}
use Rattle.vector_crystals.specs.Letters.{letter_at}
use Rattle.tensor_words.specs.Spaces.{SpaceType, IsSpace, word_weight}
use Rattle.tensor_words.specs.Codes.{IsWord}
use Rattle.tensor_words.specs.TensorRule.{action}
use Rattle.text_pieces.specs.Pieces.{words}
use Rattle.tableau_reading.specs.Shapes.{ShapeType, IsShape, shape_space, shape_weight}
use Rattle.tableau_reading.specs.Readings.{reading, top_word}
use Rattle.tableau_reading.specs.Texts.{word_text}
use Rattle.tableau_reading.specs.Tokens.{word_read}

-- a shape's top word has the i-th letter in every box of row i, from 1
abbrev pub TopHasRows : Type 0
TopHasRows = (s : ShapeType) → IsShape s → map (letter_at s.cartan) (top_word s) ≡ reading s (λ r c. pos (r + 1))

-- no raising operator applies to a shape's top word
abbrev pub TopIsHighest : Type 0
TopIsHighest = (s : ShapeType) (i : ℕ) → IsShape s → HasIndex s.cartan i → (action (shape_space s) i).eps (top_word s) ≡ 0

-- a shape's top word has the shape's weight
abbrev pub TopHasWeight : Type 0
TopHasWeight = (s : ShapeType) → IsShape s → word_weight (shape_space s) (top_word s) ≡ shape_weight s

-- what is printed of a word is read as the word
abbrev pub TextsAreRead : Type 0
TextsAreRead = (s : SpaceType) (w : List ℕ) → IsSpace s → IsWord s w → word_read s (words (word_text s w)) ≡ Ok w

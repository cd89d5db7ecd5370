-- The words that fill a shape.
use Rattle.std.proofs.Common.{◌≡◌, ◌∙◌, ℕ, zero, suc, ◌<◌, IsTrue, List, [], ◌∷◌, length, map, get_or, replicate, arith}
use Rattle.crystal_cartan.specs.Types.{CartanType}
use Rattle.vector_crystals.specs.Letters.{letter_count}
use Rattle.tensor_words.specs.declared.spaces.Factor.TheVariants.{Vector}
use Rattle.tensor_words.specs.Spaces.{HasFactors, base_size}
use Rattle.tensor_words.specs.Codes.{AreDigits, IsWord, code_of, is_before}
use Rattle.tensor_words.proofs.CodeLaws.{codes_are_lexicographic}
use Rattle.tensor_words.proofs.SpaceWords.{length_word}
use Rattle.tableau_reading.specs.Shapes.{ShapeType, IsShape, box_count, shape_space}
use Rattle.tableau_reading.proofs.VectorSpaces.{all_vectors, length-shape_space}

pub shape_factors : (s : ShapeType) → IsShape s → HasFactors (shape_space s)
shape_factors s h = record { cartan = h.cartan; had = all_vectors s.cartan.kind (box_count s) }

pub length_of_word : (s : ShapeType) (w : List ℕ) → IsWord (shape_space s) w → length w ≡ box_count s
length_of_word s w word = length_word (shape_space s) w word ∙ length-shape_space s

are_digits : (t : CartanType) (n : ℕ) (w : List ℕ) → length w ≡ n → ((k : ℕ) → k < n → get_or w k 0 < letter_count t) → AreDigits (map (base_size t) (replicate n Vector)) w
unfolding base_size
are_digits t zero [] size small = tt
are_digits t zero (d ∷ w) size small = absurd (omega arith)
are_digits t (suc n) [] size small = absurd (omega arith)
are_digits t (suc n) (d ∷ w) size small = (small 0 (omega arith), are_digits t n w (omega arith) (λ k lt. small (suc k) (omega arith)))

-- as many digits as boxes, each below the number of letters
pub word_from_digits : (s : ShapeType) (w : List ℕ) → length w ≡ box_count s → ((k : ℕ) → k < box_count s → get_or w k 0 < letter_count s.cartan) → IsWord (shape_space s) w
word_from_digits s w size small = are_digits s.cartan (box_count s) w size small

pub before_below : (s : ShapeType) (v w : List ℕ) → IsShape s → IsWord (shape_space s) v → IsWord (shape_space s) w → IsTrue (is_before v w)
    → code_of (shape_space s) v < code_of (shape_space s) w
before_below s v w h word other test = (codes_are_lexicographic (shape_space s) v w (shape_factors s h) word other).1 test

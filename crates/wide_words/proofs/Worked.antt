-- Worked values of the definitions, in type A 1 with the vector crystal in each half: the words 1 1, 1 2, 2 1 and 2 2.
use Rattle.std.proofs.Common.{◌≡◌, refl, ℕ, ◌==◌, Bool, true, false, if◌then◌else◌, [], ◌∷◌, Some, None, lit<, lit≤, arith}
use Rattle.crystal_cartan.specs.declared.types.Kind.TheVariants.{A}
use Rattle.crystal_cartan.specs.declared.types.Arrow.{Arrow}
use Rattle.vector_crystals.specs.Letters.{letters}
use Rattle.vector_crystals.specs.VectorCrystals.{vector_edges, letter_action, digit_action}
use Rattle.tensor_words.specs.declared.spaces.Factor.TheVariants.{Vector}
use Rattle.tensor_words.specs.Spaces.{SpaceType, tensor_space, base_size, base_action}
use Rattle.tensor_words.specs.Codes.{code_of, word_of}
use Rattle.tensor_words.specs.TensorRule.{action}
use Rattle.tensor_words.specs.Operators.{op}
use Rattle.graph_history.specs.declared.event.Origin.TheVariants.{Root, By}
use Rattle.graph_history.specs.declared.event.Act.TheVariants.{Added, Spent}
use Rattle.wide_words.specs.WideSpaces.{WideSpaceType, whole, number, acts_high}
use Rattle.wide_words.specs.WideHistory.{WideWorldType, IsWideLegal}
use Rattle.wide_words.specs.WideCounts.{arrow_sum}

abbrev half : SpaceType
half = tensor_space (record { kind = A; rank = 1 }) (Vector ∷ [])

abbrev space : WideSpaceType
space = record { high = half; low = half }

abbrev f : Arrow
f = record { down = true; index = 1 }

number_is : number space (record { high = 1; low = 0 }) ≡ 2
unfolding base_size
number_is = refl

-- f leads from 1 1 to 1 2 and on to 2 2, and then to zero
from_first : op (whole space) f 0 ≡ Some 1
unfolding op code_of word_of base_size action base_action digit_action letter_action vector_edges letters
from_first = refl

from_second : op (whole space) f 1 ≡ Some 3
unfolding op code_of word_of base_size action base_action digit_action letter_action vector_edges letters
from_second = refl

from_last : op (whole space) f 3 ≡ None
unfolding op code_of word_of base_size action base_action digit_action letter_action vector_edges letters
from_last = refl

-- at 1 2 the operator acts on the high half, at 1 1 on the low one
low_first : acts_high space f (0 ∷ []) (0 ∷ []) ≡ false
unfolding action base_action digit_action letter_action vector_edges letters
low_first = refl

then_high : acts_high space f (0 ∷ []) (1 ∷ []) ≡ true
unfolding action base_action digit_action letter_action vector_edges letters
then_high = refl

-- the three words have two lowering arrows
arrows : arrow_sum (whole space) (0 ∷ 1 ∷ 3 ∷ []) ≡ 2
unfolding op code_of word_of base_size action base_action digit_action letter_action vector_edges letters
arrows = refl

-- with the capacity 1 the root is put into a cell beyond it, and the next word finds no room
abbrev world : WideWorldType
world = record { space = space; capacity = 1; roots = record { high = 0; low = 0 } ∷ [] }

no_vertex : (x y : ℕ) (b : Bool) → (x ≡ y → ⊥) → (if b then Some x else None) ≡ Some y → ⊥
no_vertex x y true other h = let same : x ≡ y = cc in other same
no_vertex x y false other h = cc

full : IsWideLegal world (record { caller = 0; act = Added 5 0 Root } ∷ record { caller = 0; act = Spent 1 } ∷ [])
unfolding IsWideLegal base_size
full = (
  record { word = lit< tt; fresh = λ c h. cc; cell = lit< tt; free = refl; origin = (0, lit< tt, refl) },
  (
    record {
      fresh = λ c h. no_vertex 0 1 (5 == c) (λ same. absurd (omega arith)) h;
      full = lit≤ tt;
      origin = By 5 f;
      cause = (0, refl, record { index = record { low = lit≤ tt; high = lit≤ tt } }, from_first);
    },
    tt,
  ),
)

-- How large the coordinates of weights of words are.
use Rattle.std.proofs.Common.{◌≡◌, subst, ℕ, ◌+◌, ◌-◌, ◌*◌, Bool, true, false, if◌then◌else◌, List, [], ◌∷◌, length, get_or, inl, inr, ℤ, pos, negsuc, ◌+ℤ◌, All, arith}
use Rattle.std.proofs.lemmas.Bool.{cases_lt}
use Rattle.std.proofs.lemmas.Int.{ints}
use Rattle.std.proofs.lemmas.List.{get_or_past}
use Rattle.vector_crystals.proofs.Seminormal.{weight-small}
use Rattle.crystal_cartan.specs.Types.{CartanType, coordinates}
use Rattle.crystal_cartan.specs.Weights.{coordinate, zero_weight, sum_of}
use Rattle.vector_crystals.specs.Letters.{letter_at}
use Rattle.spin_crystals.specs.Signs.{signs_at}
use Rattle.spin_crystals.specs.SpinCrystals.{sign_coordinate, signs_weight}
use Rattle.spin_crystals.specs.declared.signs.Half.TheVariants.{Whole, Plus, Minus}
use Rattle.tensor_words.specs.declared.spaces.Factor.{Factor}
use Rattle.tensor_words.specs.declared.spaces.Factor.TheVariants.{Vector, Spin, SpinPlus, SpinMinus}
use Rattle.tensor_words.specs.Spaces.{SpaceType, IsWithin, base_weight, weight_along, word_weight}
use Rattle.crystal_cartan.proofs.Bounds.{All-weight_from}

bounded_at : (n : ℕ) (w : List ℤ) (j : ℕ) → All (IsWithin n) w → IsWithin n (coordinate w j)
bounded_at n w j all = elim (cases_lt (j - 1) (length w)) [
  | inl lt ↦ all (j - 1) (pos 0) lt
  | inr past ↦ let none : get_or w (j - 1) (pos 0) ≡ pos 0 = get_or_past w (j - 1) (pos 0) past in
      rw none (omega (arith, ints), omega (arith, ints))
]

pub bounded_sum : (a b : ℕ) (v w : List ℤ) → All (IsWithin a) v → All (IsWithin b) w → All (IsWithin (a + b)) (sum_of v w)
bounded_sum a b v w first second = All-weight_from (IsWithin (a + b)) (length v) (λ j. coordinate v j +ℤ coordinate w j) (λ j low high.
    let x : IsWithin a (coordinate v j) = bounded_at a v j first in
    let y : IsWithin b (coordinate w j) = bounded_at b w j second in
    (omega (arith, ints, x.0, x.1, y.0, y.1), omega (arith, ints, x.0, x.1, y.0, y.1)))

bounded_zero : (t : CartanType) (n : ℕ) → All (IsWithin n) (zero_weight t)
bounded_zero t n = All-weight_from (IsWithin n) (coordinates t) (λ j. pos 0) (λ j low high. (omega (arith, ints), omega (arith, ints)))

-- a doubled coordinate of the weight of an element of a factor is at most 2
bounded_signs : (t : CartanType) (v : List Bool) → All (IsWithin 2) (signs_weight t v)
unfolding signs_weight
bounded_signs t v = All-weight_from (IsWithin 2) t.rank (sign_coordinate v) (λ j low high. one_of (get_or v (j - 1) false))
  where
    one_of : (b : Bool) → IsWithin 2 (if b then negsuc 0 else pos 1)
    one_of true = (omega (arith, ints), omega (arith, ints))
    one_of false = (omega (arith, ints), omega (arith, ints))

bounded_base : (t : CartanType) (f : Factor) (d : ℕ) → All (IsWithin 2) (base_weight t f d)
unfolding base_weight
bounded_base t Vector d = weight-small t (letter_at t d)
bounded_base t Spin d = bounded_signs t (signs_at Whole t.rank d)
bounded_base t SpinPlus d = bounded_signs t (signs_at Plus t.rank d)
bounded_base t SpinMinus d = bounded_signs t (signs_at Minus t.rank d)

bounded_along : (t : CartanType) (fs : List Factor) (ds : List ℕ) → All (IsWithin (2 * length fs)) (weight_along t fs ds)
bounded_along t [] ds = bounded_zero t 0
bounded_along t (f ∷ fs) [] = bounded_zero t (2 * length (f ∷ fs))
bounded_along t (f ∷ fs) (d ∷ ds) =
    let count : 2 + 2 * length fs ≡ 2 * length (f ∷ fs) = omega arith in
    subst (λ (m : ℕ). All (IsWithin m) (weight_along t (f ∷ fs) (d ∷ ds))) count
    (bounded_sum 2 (2 * length fs) (base_weight t f d) (weight_along t fs ds) (bounded_base t f d) (bounded_along t fs ds))

-- a doubled coordinate of the weight of a word is at most twice the number of factors
pub bounded_word : (s : SpaceType) (w : List ℕ) → All (IsWithin (2 * length s.factors)) (word_weight s w)
unfolding word_weight
bounded_word s w = bounded_along s.cartan s.factors w

-- Tensor products of base crystals: their factors, sizes and what is taken.
use Rattle.std.specs.Prelude.{ℕ, ◌+◌, ◌*◌, ◌^◌, ◌<◌, ◌≤◌, ◌==◌, nat_lt, IsTrue, Bool, true, if◌then◌else◌, List, [], ◌∷◌, map, length, slice_index_or, Option, Some, None, Result, Ok, Err, ℤ}
use Rattle.std.specs.List.{list_all}
use Rattle.crystal_cartan.specs.Types.{CartanType, IsCartan}
use Rattle.crystal_cartan.specs.Crystals.{Action}
use Rattle.crystal_cartan.specs.Weights.{zero_weight, sum_of}
pub use Rattle.crystal_cartan.specs.Weights.{IsWithin}
use Rattle.crystal_cartan.specs.declared.types.Kind.{Kind}
use Rattle.vector_crystals.specs.Letters.{letter_count, letter_at}
use Rattle.vector_crystals.specs.VectorCrystals.{digit_action, letter_weight}
use Rattle.spin_crystals.specs.Signs.{has_half, half_size, signs_at}
use Rattle.spin_crystals.specs.SpinCrystals.{spin_digit_action, signs_weight}
use Rattle.spin_crystals.specs.declared.signs.Half.{Half}
use Rattle.spin_crystals.specs.declared.signs.Half.TheVariants.{Whole, Plus, Minus}
use Rattle.tensor_words.specs.declared.spaces.Factor.{Factor}
use Rattle.tensor_words.specs.declared.spaces.Factor.TheVariants.{Vector, Spin, SpinPlus, SpinMinus}
use Rattle.tensor_words.specs.declared.spaces.Order.{Order}
use Rattle.tensor_words.specs.declared.spaces.Order.TheVariants.{Standard}
use Rattle.tensor_words.specs.declared.spaces.SpaceFault.{SpaceFault}
use Rattle.tensor_words.specs.declared.spaces.SpaceFault.TheVariants.{NoFactor, TooManyFactors, WrongFactor, TooWide}

-- a tensor product of base crystals of one type, as contracts see it
pub record SpaceType : Type 0 where
  pub cartan : CartanType
  pub factors : List Factor
  pub order : Order

-- the tensor product of these factors, in the standard order; contracts make a space by this word and the next alone
abbrev pub tensor_space : CartanType → List Factor → SpaceType
tensor_space t fs = record { cartan = t; factors = fs; order = Standard }

-- the same tensor product in this order
abbrev pub ordered : Order → SpaceType → SpaceType
ordered o s = record { cartan = s.cartan; factors = s.factors; order = o }

-- whether the kind has this factor
abbrev pub has_factor : Kind → Factor → Bool
has_factor k Vector = true
has_factor k Spin = has_half k Whole
has_factor k SpinPlus = has_half k Plus
has_factor k SpinMinus = has_half k Minus

-- the half of the spin crystal that a factor is, `None` for the vector crystal
abbrev pub half_of : Factor → Option Half
half_of Vector = None
half_of Spin = Some Whole
half_of SpinPlus = Some Plus
half_of SpinMinus = Some Minus

-- the number of elements of a factor; its elements are the digits below
unfoldable pub base_size : CartanType → Factor → ℕ
base_size t Vector = letter_count t
base_size t Spin = half_size Whole t.rank
base_size t SpinPlus = half_size Plus t.rank
base_size t SpinMinus = half_size Minus t.rank

-- how the index i acts on the digits of a factor
unfoldable pub base_action : CartanType → ℕ → Factor → Action ℕ
base_action t i Vector = digit_action t i
base_action t i Spin = spin_digit_action t Whole i
base_action t i SpinPlus = spin_digit_action t Plus i
base_action t i SpinMinus = spin_digit_action t Minus i

-- the weight of the element with this digit
unfoldable pub base_weight : CartanType → Factor → ℕ → List ℤ
base_weight t Vector d = letter_weight t (letter_at t d)
base_weight t Spin d = signs_weight t (signs_at Whole t.rank d)
base_weight t SpinPlus d = signs_weight t (signs_at Plus t.rank d)
base_weight t SpinMinus d = signs_weight t (signs_at Minus t.rank d)

-- the sizes of the factors, and the number of words
abbrev pub sizes : SpaceType → List ℕ
sizes s = map (base_size s.cartan) s.factors

abbrev pub product : List ℕ → ℕ
product [] = 1
product (b ∷ bs) = b * product bs

abbrev pub size : SpaceType → ℕ
size s = product (sizes s)

-- the factor at a place, counted from 0, and its number of elements
abbrev pub factor_at : SpaceType → ℕ → Factor
factor_at s k = slice_index_or s.factors k Vector

abbrev pub size_at : SpaceType → ℕ → ℕ
size_at s k = base_size s.cartan (factor_at s k)

-- the type is one that is taken, and has every factor of the space; limits do not matter
pub record HasFactors (s : SpaceType) : Type 0 where
  pub cartan : IsCartan s.cartan
  pub had : IsTrue (list_all (has_factor s.cartan.kind) s.factors)

-- the space is one of those that are taken
pub record IsSpace (s : SpaceType) : Type 0 where
  pub cartan : IsCartan s.cartan
  pub some : 0 < length s.factors
  pub few : length s.factors ≤ 40
  pub had : IsTrue (list_all (has_factor s.cartan.kind) s.factors)
  pub narrow : size s ≤ 2 ^ 63

-- the first place, counted from n on, with a factor that the kind does not have
abbrev pub wrong_place : Kind → ℕ → List Factor → Option ℕ
wrong_place k n [] = None
wrong_place k n (f ∷ fs) = if has_factor k f then wrong_place k (n + 1) fs else Some n

abbrev pub wrong_factor_or : Option ℕ → Result SpaceType SpaceFault → Result SpaceType SpaceFault
wrong_factor_or (Some p) r = Err (WrongFactor p)
wrong_factor_or None r = r

-- the space of these factors, or the first fault that applies
unfoldable pub space_of : CartanType → List Factor → Result SpaceType SpaceFault
space_of t fs =
    if length fs == 0 then Err NoFactor
    else if nat_lt 40 (length fs) then Err TooManyFactors
    else wrong_factor_or (wrong_place t.kind 1 fs)
    (if nat_lt (2 ^ 63) (product (map (base_size t) fs)) then Err TooWide else Ok (tensor_space t fs))

-- the weight of a word: the sum of the weights of its elements
abbrev pub weight_along : CartanType → List Factor → List ℕ → List ℤ
weight_along t [] ds = zero_weight t
weight_along t (f ∷ fs) [] = zero_weight t
weight_along t (f ∷ fs) (d ∷ ds) = sum_of (base_weight t f d) (weight_along t fs ds)

unfoldable pub word_weight : SpaceType → List ℕ → List ℤ
word_weight s w = weight_along s.cartan s.factors w

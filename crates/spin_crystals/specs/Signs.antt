-- Vectors of signs, and the numbers that stand for them.
use Rattle.std.specs.Prelude.{ℕ, zero, suc, ◌+◌, ◌-◌, ◌%◌, ◌^◌, ◌<◌, ◌≡◌, ◌&&◌, nat_le, IsTrue, Bool, true, false, not, if◌then◌else◌, List, [], ◌∷◌, ◌++◌, map, take, length}
use Rattle.crystal_cartan.specs.Types.{CartanType}
use Rattle.crystal_cartan.specs.declared.types.Kind.{Kind}
use Rattle.crystal_cartan.specs.declared.types.Kind.TheVariants.{A, B, C, D}
use Rattle.spin_crystals.specs.declared.signs.Signs.{Signs}
use Rattle.spin_crystals.specs.declared.signs.Half.{Half}
use Rattle.spin_crystals.specs.declared.signs.Half.TheVariants.{Whole, Plus, Minus}

-- a sign is a Bool
abbrev pub plus : Bool
plus = false

abbrev pub minus : Bool
minus = true

-- all vectors of n signs
abbrev pub vectors : ℕ → List (List Bool)
vectors zero = [] ∷ []
vectors (suc n) = map (λ v. plus ∷ v) (vectors n) ++ map (λ v. minus ∷ v) (vectors n)

abbrev pub same_sign : Bool → Bool → Bool
same_sign s t = if s then t else not t

abbrev pub same_signs : List Bool → List Bool → Bool
same_signs [] [] = true
same_signs [] (t ∷ ts) = false
same_signs (s ∷ ss) [] = false
same_signs (s ∷ ss) (t ∷ ts) = same_sign s t && same_signs ss ts

-- whether the number of minus signs is odd
abbrev pub has_odd_minuses : List Bool → Bool
has_odd_minuses [] = false
has_odd_minuses (s ∷ ss) = if s then not (has_odd_minuses ss) else has_odd_minuses ss

-- the binary number of a vector: 0 for plus and 1 for minus, the first sign most significant
abbrev pub number_of_signs : List Bool → ℕ
number_of_signs [] = 0
number_of_signs (s ∷ ss) = (if s then 2 ^ length ss else 0) + number_of_signs ss

-- the vector of n signs whose number is b, below 2 ^ n
abbrev pub signs_of_number : ℕ → ℕ → List Bool
signs_of_number zero b = []
signs_of_number (suc n) b = nat_le (2 ^ n) (b % 2 ^ (n + 1)) ∷ signs_of_number n b

-- the vector that a value of the code stands for
abbrev pub vector_of : Signs → List Bool
vector_of x = signs_of_number x.size x.bits

-- x is an element of the type: it has r signs
pub record IsSigns (t : CartanType) (x : Signs) : Type 0 where
  pub size : x.size ≡ t.rank
  pub below : x.bits < 2 ^ t.rank

-- the types that have spin elements here
abbrev pub has_spin : Kind → Bool
has_spin A = false
has_spin B = true
has_spin C = false
has_spin D = true

abbrev pub HasSpin : CartanType → Type 0
HasSpin t = IsTrue (has_spin t.kind)

-- whether the kind has this crystal of spin elements: B all vectors, D those of either parity
abbrev pub has_half : Kind → Half → Bool
has_half B Whole = true
has_half D Plus = true
has_half D Minus = true
has_half _ _ = false

abbrev pub HasHalf : CartanType → Half → Type 0
HasHalf t half = IsTrue (has_half t.kind half)

-- whether a vector belongs to the half: SpinPlus has an even number of minus signs, SpinMinus an odd number
abbrev pub is_of_half : Half → List Bool → Bool
is_of_half Whole v = true
is_of_half Plus v = not (has_odd_minuses v)
is_of_half Minus v = has_odd_minuses v

-- the second vector belongs to the same spin crystals of the type as the first
abbrev pub KeepsHalves : CartanType → List Bool → List Bool → Type 0
KeepsHalves t v w = (half : Half) → HasHalf t half → is_of_half half v ≡ is_of_half half w

-- the number of elements
abbrev pub half_size : Half → ℕ → ℕ
half_size Whole r = 2 ^ r
half_size Plus r = 2 ^ (r - 1)
half_size Minus r = 2 ^ (r - 1)

-- the digit of a vector: its number, in a half that of the first r - 1 signs
abbrev pub signs_digit : Half → List Bool → ℕ
signs_digit Whole v = number_of_signs v
signs_digit Plus v = number_of_signs (take (length v - 1) v)
signs_digit Minus v = number_of_signs (take (length v - 1) v)

-- the vector with this digit: in a half the last sign is the one that the parity asks for
abbrev pub signs_at : Half → ℕ → ℕ → List Bool
signs_at Whole r d = signs_of_number r d
signs_at Plus r d = signs_of_number (r - 1) d ++ has_odd_minuses (signs_of_number (r - 1) d) ∷ []
signs_at Minus r d = signs_of_number (r - 1) d ++ not (has_odd_minuses (signs_of_number (r - 1) d)) ∷ []

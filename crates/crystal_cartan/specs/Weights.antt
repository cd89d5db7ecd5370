-- Weights, simple roots, pairings and reflections (Bump and Schilling, Crystal Bases, 2017, section 2.1 and its tables).
-- A weight is the list of its coordinates, each doubled, so that the weights of spin elements are whole numbers.
use Rattle.std.specs.Prelude.{ℕ, ◌+◌, ◌-◌, ◌≡◌, ◌==◌, nat_lt, if◌then◌else◌, List, map, length, slice_index_or, ℤ, pos, neg_ℤ, ◌+ℤ◌, ◌-ℤ◌, ◌*ℤ◌, ◌≤ℤ◌, All}
use Rattle.std.specs.List.{range_with_len}
use Rattle.crystal_cartan.specs.Types.{CartanType, coordinates, HasIndex}
use Rattle.crystal_cartan.specs.declared.types.Kind.{Kind}
use Rattle.crystal_cartan.specs.declared.types.Kind.TheVariants.{A, B, C, D}

-- the list of n coordinates whose j-th, from 1, is f j
abbrev pub weight_from : ℕ → (ℕ → ℤ) → List ℤ
weight_from n f = map f (range_with_len 1 n)

-- the j-th coordinate, from 1, doubled as it is kept
abbrev pub coordinate : List ℤ → ℕ → ℤ
coordinate w j = slice_index_or w (j - 1) (pos 0)

abbrev pub zero_weight : CartanType → List ℤ
zero_weight t = weight_from (coordinates t) (λ j. pos 0)

-- the sum and the difference of two weights, coordinate by coordinate
abbrev pub sum_of : List ℤ → List ℤ → List ℤ
sum_of v w = weight_from (length v) (λ j. coordinate v j +ℤ coordinate w j)

abbrev pub difference_of : List ℤ → List ℤ → List ℤ
difference_of v w = weight_from (length v) (λ j. coordinate v j -ℤ coordinate w j)

-- the j-th coordinate of the i-th unit vector, not doubled
abbrev pub unit_at : ℕ → ℕ → ℤ
unit_at i j = if i == j then pos 1 else pos 0

-- the j-th coordinate of e_i - e_{i+1}, not doubled
abbrev pub step_root_at : ℕ → ℕ → ℤ
step_root_at i j = unit_at i j -ℤ unit_at (i + 1) j

-- the j-th coordinate of the last simple root, not doubled
abbrev pub last_root_at : Kind → ℕ → ℕ → ℤ
last_root_at A r j = step_root_at r j
last_root_at B r j = unit_at r j
last_root_at C r j = unit_at r j +ℤ unit_at r j
last_root_at D r j = unit_at (r - 1) j +ℤ unit_at r j

-- the j-th coordinate of the simple root with the index i, not doubled
abbrev pub root_at : CartanType → ℕ → ℕ → ℤ
root_at t i j = if nat_lt i t.rank then step_root_at i j else last_root_at t.kind t.rank j

-- the simple root with the index i
unfoldable pub root : CartanType → ℕ → List ℤ
root t i = weight_from (coordinates t) (λ j. root_at t i j +ℤ root_at t i j)

-- twice the pairing of a weight with the last simple coroot
abbrev pub last_twice_pairing : Kind → ℕ → List ℤ → ℤ
last_twice_pairing A r w = coordinate w r -ℤ coordinate w (r + 1)
last_twice_pairing B r w = coordinate w r +ℤ coordinate w r
last_twice_pairing C r w = coordinate w r
last_twice_pairing D r w = coordinate w (r - 1) +ℤ coordinate w r

-- twice the pairing of a weight with the simple coroot of index i: doubled coordinates give it without a division
unfoldable pub twice_pairing : CartanType → List ℤ → ℕ → ℤ
twice_pairing t w i =
    if nat_lt i t.rank then coordinate w i -ℤ coordinate w (i + 1) else last_twice_pairing t.kind t.rank w

-- p is the pairing of the weight with the simple coroot of index i
abbrev pub IsPairing : CartanType → List ℤ → ℕ → ℤ → Type 0
IsPairing t w i p = p +ℤ p ≡ twice_pairing t w i

-- the simple reflection s_i of a weight: the weight less its pairing times the simple root;
-- twice the pairing times the root that is not doubled is the pairing times the doubled root
unfoldable pub reflection : CartanType → List ℤ → ℕ → List ℤ
reflection t w i = weight_from (length w) (λ j. coordinate w j -ℤ twice_pairing t w i *ℤ root_at t i j)

-- the weight has the coordinates of the type
abbrev pub IsWeight : CartanType → List ℤ → Type 0
IsWeight t w = length w ≡ coordinates t

-- a doubled coordinate between -n and n
abbrev pub IsWithin : ℕ → ℤ → Type 0
IsWithin n x = (neg_ℤ (pos n) ≤ℤ x) × (x ≤ℤ pos n)

-- every doubled coordinate is between -1,000 and 1,000
abbrev pub IsSmallCoordinate : ℤ → Type 0
IsSmallCoordinate x = IsWithin 1000 x

abbrev pub IsSmall : List ℤ → Type 0
IsSmall w = All IsSmallCoordinate w

-- no pairing with a simple coroot is negative
abbrev pub IsDominant : CartanType → List ℤ → Type 0
IsDominant t w = (i : ℕ) → HasIndex t i → pos 0 ≤ℤ twice_pairing t w i

-- The spin crystals of the types B and D (Bump and Schilling, Crystal Bases, 2017, chapter 5).
use Rattle.std.specs.Prelude.{ℕ, ◌-◌, nat_lt, Bool, if◌then◌else◌, List, [], ◌∷◌, ◌++◌, map, slice_index_or, ℤ, pos, negsuc}
use Rattle.std.specs.List.{flat_map}
use Rattle.crystal_cartan.specs.Types.{CartanType}
use Rattle.crystal_cartan.specs.Weights.{weight_from}
use Rattle.crystal_cartan.specs.Crystals.{Edge, edge, Action, edge_action, carried}
use Rattle.crystal_cartan.specs.declared.types.Kind.{Kind}
use Rattle.crystal_cartan.specs.declared.types.Kind.TheVariants.{A, B, C, D}
use Rattle.spin_crystals.specs.declared.signs.Half.{Half}
use Rattle.spin_crystals.specs.Signs.{plus, minus, vectors, same_signs, signs_at, signs_digit}

-- plus minus at the places i and i + 1 becomes minus plus
abbrev pub exchange_edges : ℕ → ℕ → List (Edge (List Bool))
exchange_edges r i =
    flat_map
    (λ u. map (λ v. edge (u ++ plus ∷ minus ∷ v) i (u ++ minus ∷ plus ∷ v)) (vectors (r - i - 1)))
    (vectors (i - 1))

-- the arrows whose index is the rank: in B the last sign goes from plus to minus, in D the last two from plus to minus
abbrev pub last_spin_edges : Kind → ℕ → List (Edge (List Bool))
last_spin_edges A r = []
last_spin_edges B r = map (λ u. edge (u ++ plus ∷ []) r (u ++ minus ∷ [])) (vectors (r - 1))
last_spin_edges C r = []
last_spin_edges D r = map (λ u. edge (u ++ plus ∷ plus ∷ []) r (u ++ minus ∷ minus ∷ [])) (vectors (r - 2))

-- all arrows of index i between vectors of signs
unfoldable pub spin_edges : CartanType → ℕ → List (Edge (List Bool))
spin_edges t i = if nat_lt i t.rank then exchange_edges t.rank i else last_spin_edges t.kind t.rank

-- how the index i acts on vectors of signs
unfoldable pub signs_action : CartanType → ℕ → Action (List Bool)
signs_action t i = edge_action same_signs (spin_edges t i) i

-- the same on their digits
unfoldable pub spin_digit_action : CartanType → Half → ℕ → Action ℕ
spin_digit_action t half i = carried (signs_at half t.rank) (signs_digit half) (signs_action t i)

-- the j-th coordinate of the weight of a vector, doubled: 1 for plus and -1 for minus
abbrev pub sign_coordinate : List Bool → ℕ → ℤ
sign_coordinate v j = if slice_index_or v (j - 1) plus then negsuc 0 else pos 1

-- the weight of a vector: half the sum of the signed unit vectors; doubled
unfoldable pub signs_weight : CartanType → List Bool → List ℤ
signs_weight t v = weight_from t.rank (sign_coordinate v)

-- The vector crystals of the four classical families (Bump and Schilling, Crystal Bases, 2017, section 2.2 and figures there).
use Rattle.std.specs.Prelude.{ℕ, ◌+◌, ◌-◌, if◌then◌else◌, List, [], ◌∷◌, ◌++◌, ℤ, pos, negsuc}
use Rattle.std.specs.List.{range_with_len, flat_map}
use Rattle.std.specs.Ordering.{int_eq}
use Rattle.crystal_cartan.specs.Types.{CartanType, coordinates}
use Rattle.crystal_cartan.specs.Weights.{weight_from}
use Rattle.crystal_cartan.specs.Crystals.{Edge, edge, Action, edge_action, carried}
use Rattle.crystal_cartan.specs.declared.types.Kind.{Kind}
use Rattle.crystal_cartan.specs.declared.types.Kind.TheVariants.{A, B, C, D}
use Rattle.vector_crystals.specs.Letters.{barred, letter_at, letter_digit}

-- i to i + 1
abbrev pub forward_edges : ℕ → List (Edge ℤ)
forward_edges i = edge (pos i) i (pos (i + 1)) ∷ []

-- i to i + 1, and i + 1 with a bar to i with a bar
abbrev pub paired_edges : ℕ → List (Edge ℤ)
paired_edges i = edge (pos i) i (pos (i + 1)) ∷ edge (barred (i + 1)) i (barred i) ∷ []

-- the arrows whose index is below the rank
abbrev pub first_edges : Kind → ℕ → List (Edge ℤ)
first_edges A i = forward_edges i
first_edges B i = paired_edges i
first_edges C i = paired_edges i
first_edges D i = paired_edges i

-- the arrows whose index is the rank
abbrev pub last_edges : Kind → ℕ → List (Edge ℤ)
last_edges A r = forward_edges r
last_edges B r = edge (pos r) r (pos 0) ∷ edge (pos 0) r (barred r) ∷ []
last_edges C r = edge (pos r) r (barred r) ∷ []
last_edges D r = edge (pos (r - 1)) r (barred r) ∷ edge (pos r) r (barred (r - 1)) ∷ []

-- all arrows of the vector crystal
abbrev pub vector_edges_of : Kind → ℕ → List (Edge ℤ)
vector_edges_of k r = flat_map (first_edges k) (range_with_len 1 (r - 1)) ++ last_edges k r

unfoldable pub vector_edges : CartanType → List (Edge ℤ)
vector_edges t = vector_edges_of t.kind t.rank

-- how the index i acts on letters
unfoldable pub letter_action : CartanType → ℕ → Action ℤ
letter_action t i = edge_action int_eq (vector_edges t) i

-- the same on their digits
unfoldable pub digit_action : CartanType → ℕ → Action ℕ
digit_action t i = carried (letter_at t) (letter_digit t) (letter_action t i)

-- the weight of a letter: e_i of i, - e_i of i with a bar, and 0 of 0; doubled
unfoldable pub letter_weight : CartanType → ℤ → List ℤ
letter_weight t x =
    weight_from (coordinates t) (λ j. if int_eq x (pos j) then pos 2 else if int_eq x (barred j) then negsuc 1 else pos 0)

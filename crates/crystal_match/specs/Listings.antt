-- Lists of pairs of codes, and lists of arrows.
use Rattle.std.specs.Prelude.{ℕ, ◌==◌, ◌&&◌, Bool, true, List, map, slice_index_or}
use Rattle.crystal_cartan.specs.declared.types.Arrow.{Arrow}

-- the same two codes
abbrev pub pair_eq : ℕ × ℕ → ℕ × ℕ → Bool
pair_eq x y = (x.0 == y.0) && (x.1 == y.1)

-- the first and the second codes
abbrev pub firsts : List (ℕ × ℕ) → List ℕ
firsts xs = map (λ x. x.0) xs

abbrev pub seconds : List (ℕ × ℕ) → List ℕ
seconds xs = map (λ x. x.1) xs

-- the pair at a place, counted from 0
abbrev pub pair_at : List (ℕ × ℕ) → ℕ → ℕ × ℕ
pair_at xs k = slice_index_or xs k (0, 0)

abbrev pub no_arrow : Arrow
no_arrow = record { down = true; index = 0 }

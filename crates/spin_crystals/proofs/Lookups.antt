-- Looking up arrows in lists of arrows between vectors of signs.
use Rattle.std.proofs.Common.{◌≡◌, refl, ap, ℕ, ◌==◌, Bool, true, false, ◌&&◌, if◌then◌else◌, List, [], ◌∷◌, ◌++◌, map, Some, None}
use Rattle.std.specs.Option.{option_or, option_map}
use Rattle.crystal_cartan.specs.Crystals.{Edge, edge, target, origin}
use Rattle.spin_crystals.specs.Signs.{same_sign, same_signs}

-- an arrow the other way
abbrev pub reversed : Edge (List Bool) → Edge (List Bool)
reversed e = edge e.to e.index e.from

-- an arrow with one sign more before both vectors
abbrev pub prefixed : Bool → Edge (List Bool) → Edge (List Bool)
prefixed s e = edge (s ∷ e.from) e.index (s ∷ e.to)

pub origin_reversed : (es : List (Edge (List Bool))) (i : ℕ) (x : List Bool) → origin same_signs es i x ≡ target same_signs (map reversed es) i x
origin_reversed [] i x = refl
origin_reversed (e ∷ es) i x = ap (λ o. if (e.index == i) && same_signs e.to x then Some e.from else o) (origin_reversed es i x)

pub target-append : (es fs : List (Edge (List Bool))) (i : ℕ) (x : List Bool) →
    target same_signs (es ++ fs) i x ≡ option_or (target same_signs es i x) (target same_signs fs i x)
target-append [] fs i x = refl
target-append (e ∷ es) fs i x =
    elim ((e.index == i) && same_signs e.from x) as (λ b. (if b then Some e.to else target same_signs (es ++ fs) i x) ≡ option_or (if b then Some e.to else target same_signs es i x) (target same_signs fs i x))
    [ true ↦ refl | false ↦ target-append es fs i x ]

-- arrows that begin with this sign
pub target-prefixed : (s : Bool) (es : List (Edge (List Bool))) (i : ℕ) (x : List Bool) →
    target same_signs (map (prefixed s) es) i (s ∷ x) ≡ option_map (λ y. s ∷ y) (target same_signs es i x)
target-prefixed s [] i x = refl
target-prefixed true (e ∷ es) i x =
    elim ((e.index == i) && same_signs e.from x) as (λ b. (if b then Some (true ∷ e.to) else target same_signs (map (prefixed true) es) i (true ∷ x)) ≡ option_map (λ y. true ∷ y) (if b then Some e.to else target same_signs es i x))
    [ true ↦ refl | false ↦ target-prefixed true es i x ]
target-prefixed false (e ∷ es) i x =
    elim ((e.index == i) && same_signs e.from x) as (λ b. (if b then Some (false ∷ e.to) else target same_signs (map (prefixed false) es) i (false ∷ x)) ≡ option_map (λ y. false ∷ y) (if b then Some e.to else target same_signs es i x))
    [ true ↦ refl | false ↦ target-prefixed false es i x ]

-- arrows that begin with the other sign
pub target-prefixed_other : (s t : Bool) (es : List (Edge (List Bool))) (i : ℕ) (x : List Bool) → same_sign s t ≡ false →
    target same_signs (map (prefixed s) es) i (t ∷ x) ≡ None
target-prefixed_other s t [] i x other = refl
target-prefixed_other s t (e ∷ es) i x other =
    rw other (elim (e.index == i) as (λ b. (if b && false then Some (s ∷ e.to) else target same_signs (map (prefixed s) es) i (t ∷ x)) ≡ None)
    [ true ↦ target-prefixed_other s t es i x other | false ↦ target-prefixed_other s t es i x other ])

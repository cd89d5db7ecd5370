-- The arrows of one index replace a part of the vector, at a fixed place.
use Rattle.std.proofs.Common.{◌≡◌, refl, ap, ℕ, zero, suc, ◌+◌, ◌==◌, Bool, true, false, ◌&&◌, if◌then◌else◌, List, [], ◌∷◌, ◌++◌, map, length, take, drop, Option, Some, None, arith, length-drop}
use Rattle.std.specs.Option.{option_or, option_map}
use Rattle.std.proofs.Math.Seq.{take-append_seam, drop-append_seam}
use Rattle.std.proofs.lemmas.List.{map-append}
use Rattle.crystal_cartan.specs.Crystals.{Edge, edge, target, origin}
use Rattle.spin_crystals.specs.Signs.{plus, minus, vectors, same_sign, same_signs}
use Rattle.spin_crystals.proofs.Lookups.{reversed, prefixed, origin_reversed, target-append, target-prefixed, target-prefixed_other}

-- x with its part p after m signs replaced by q; None where another part stands there
abbrev pub replaced : ℕ → List Bool → List Bool → List Bool → Option (List Bool)
replaced zero p q x = if same_signs p (take (length p) x) then Some (q ++ drop (length p) x) else None
replaced (suc m) p q [] = None
replaced (suc m) p q (s ∷ x) = option_map (λ y. s ∷ y) (replaced m p q x)

-- the arrows from u p v to u q v, for all u of m signs and all v of n signs
abbrev pub arrows : ℕ → List Bool → List Bool → ℕ → ℕ → List (Edge (List Bool))
arrows i p q zero n = map (λ v. edge (p ++ v) i (q ++ v)) (vectors n)
arrows i p q (suc m) n = map (prefixed plus) (arrows i p q m n) ++ map (prefixed minus) (arrows i p q m n)

-- the first of these vectors that is x
abbrev pub found : List (List Bool) → List Bool → Option (List Bool)
found [] x = None
found (v ∷ vs) x = if same_signs v x then Some v else found vs x

found-append : (vs ws : List (List Bool)) (x : List Bool) → found (vs ++ ws) x ≡ option_or (found vs x) (found ws x)
found-append [] ws x = refl
found-append (v ∷ vs) ws x =
    elim (same_signs v x) as (λ b. (if b then Some v else found (vs ++ ws) x) ≡ option_or (if b then Some v else found vs x) (found ws x))
    [ true ↦ refl | false ↦ found-append vs ws x ]

found-prefixed : (s : Bool) (vs : List (List Bool)) (x : List Bool) → found (map (λ v. s ∷ v) vs) (s ∷ x) ≡ option_map (λ v. s ∷ v) (found vs x)
found-prefixed s [] x = refl
found-prefixed true (v ∷ vs) x =
    elim (same_signs v x) as (λ b. (if b then Some (true ∷ v) else found (map (λ v. true ∷ v) vs) (true ∷ x)) ≡ option_map (λ v. true ∷ v) (if b then Some v else found vs x))
    [ true ↦ refl | false ↦ found-prefixed true vs x ]
found-prefixed false (v ∷ vs) x =
    elim (same_signs v x) as (λ b. (if b then Some (false ∷ v) else found (map (λ v. false ∷ v) vs) (false ∷ x)) ≡ option_map (λ v. false ∷ v) (if b then Some v else found vs x))
    [ true ↦ refl | false ↦ found-prefixed false vs x ]

found-prefixed_other : (vs : List (List Bool)) (x : List Bool) → found (map (λ v. plus ∷ v) vs) (minus ∷ x) ≡ None
found-prefixed_other [] x = refl
found-prefixed_other (v ∷ vs) x = found-prefixed_other vs x

-- every vector of n signs is in the list of them
pub found_vector : (n : ℕ) (x : List Bool) → length x ≡ n → found (vectors n) x ≡ Some x
found_vector zero [] size = refl
found_vector zero (s ∷ x) size = absurd (omega arith)
found_vector (suc n) [] size = absurd (omega arith)
found_vector (suc n) (false ∷ x) size =
    let rest : length x ≡ n = omega arith in
    rw (found-append, found-prefixed, found_vector n x rest) refl
found_vector (suc n) (true ∷ x) size =
    let rest : length x ≡ n = omega arith in
    rw (found-append, found-prefixed_other, found-prefixed, found_vector n x rest) refl

-- arrows between g v and h v, where g v is w just if v is x and b holds
pub target-map : (g h : List Bool → List Bool) (b : Bool) (i : ℕ) (vs : List (List Bool)) (w x : List Bool) →
    ((v : List Bool) → same_signs (g v) w ≡ (b && same_signs v x)) →
    target same_signs (map (λ v. edge (g v) i (h v)) vs) i w ≡ (if b then option_map h (found vs x) else None)
target-map g h true i [] w x here = refl
target-map g h false i [] w x here = refl
target-map g h true i (v ∷ vs) w x here =
    let index : (i == i) ≡ true = grind arith in
    rw (index, here v) (elim (same_signs v x) as (λ b. (if b then Some (h v) else target same_signs (map (λ v. edge (g v) i (h v)) vs) i w) ≡ option_map h (if b then Some v else found vs x))
    [ true ↦ refl | false ↦ target-map g h true i vs w x here ])
target-map g h false i (v ∷ vs) w x here =
    let index : (i == i) ≡ true = grind arith in
    rw (index, here v) (target-map g h false i vs w x here)

same_signs-append : (p v x : List Bool) → same_signs (p ++ v) x ≡ (same_signs p (take (length p) x) && same_signs v (drop (length p) x))
same_signs-append [] v x = refl
same_signs-append (s ∷ p) v [] = refl
same_signs-append (s ∷ p) v (t ∷ x) =
    rw (same_signs-append p v x) (elim (same_sign s t) as (λ b. (b && (same_signs p (take (length p) x) && same_signs v (drop (length p) x))) ≡ ((b && same_signs p (take (length p) x)) && same_signs v (drop (length p) x)))
    [ true ↦ refl | false ↦ refl ])

option_or-none : (o : Option (List Bool)) → option_or o None ≡ o
option_or-none None = refl
option_or-none (Some y) = refl

pub target-arrows : (i : ℕ) (p q : List Bool) (m n : ℕ) (x : List Bool) → length x ≡ m + (length p + n) →
    target same_signs (arrows i p q m n) i x ≡ replaced m p q x
target-arrows i p q zero n x size =
    let rest : length (drop (length p) x) ≡ n = omega (arith, length-drop (length p) x) in
    let found_rest : found (vectors n) (drop (length p) x) ≡ Some (drop (length p) x) = found_vector n (drop (length p) x) rest in
    rw (target-map (λ v. p ++ v) (λ v. q ++ v) (same_signs p (take (length p) x)) i (vectors n) x (drop (length p) x) (λ v. same_signs-append p v x), found_rest) refl
target-arrows i p q (suc m) n [] size = absurd (omega arith)
target-arrows i p q (suc m) n (false ∷ x) size =
    let rest : length x ≡ m + (length p + n) = omega arith in
    rw (target-append, target-prefixed, target-arrows i p q m n x rest, target-prefixed_other minus plus (arrows i p q m n) i x refl) (option_or-none (option_map (λ y. false ∷ y) (replaced m p q x)))
target-arrows i p q (suc m) n (true ∷ x) size =
    let rest : length x ≡ m + (length p + n) = omega arith in
    rw (target-append, target-prefixed, target-arrows i p q m n x rest, target-prefixed_other plus minus (arrows i p q m n) i x refl) refl

map-reversed-prefixed : (s : Bool) (es : List (Edge (List Bool))) → map reversed (map (prefixed s) es) ≡ map (prefixed s) (map reversed es)
map-reversed-prefixed s [] = refl
map-reversed-prefixed s (e ∷ es) = ap (λ fs. reversed (prefixed s e) ∷ fs) (map-reversed-prefixed s es)

map-reversed-edges : (i : ℕ) (p q : List Bool) (vs : List (List Bool)) → map reversed (map (λ v. edge (p ++ v) i (q ++ v)) vs) ≡ map (λ v. edge (q ++ v) i (p ++ v)) vs
map-reversed-edges i p q [] = refl
map-reversed-edges i p q (v ∷ vs) = ap (λ fs. edge (q ++ v) i (p ++ v) ∷ fs) (map-reversed-edges i p q vs)

map-reversed-arrows : (i : ℕ) (p q : List Bool) (m n : ℕ) → map reversed (arrows i p q m n) ≡ arrows i q p m n
map-reversed-arrows i p q zero n = map-reversed-edges i p q (vectors n)
map-reversed-arrows i p q (suc m) n =
    rw (map-append, map-reversed-prefixed plus, map-reversed-prefixed minus, map-reversed-arrows i p q m n) refl

pub origin-arrows : (i : ℕ) (p q : List Bool) (m n : ℕ) (x : List Bool) → length x ≡ m + (length q + n) →
    origin same_signs (arrows i p q m n) i x ≡ replaced m q p x
origin-arrows i p q m n x size =
    rw (origin_reversed (arrows i p q m n) i x, map-reversed-arrows i p q m n) (target-arrows i q p m n x size)

pub replaced-head : (p q w v : List Bool) → length w ≡ length p → replaced zero p q (w ++ v) ≡ (if same_signs p w then Some (q ++ v) else None)
replaced-head p q w v size = rw (← size, take-append_seam w v, drop-append_seam w v) refl

-- The cells or the codes of a list of vertices.
use Rattle.std.proofs.Common.{◌≡◌, refl, ap, subst, ℕ, zero, suc, ◌==◌, cond, Bool, true, false, nat_eq, if◌then◌else◌, List, [], ◌∷◌, length, filter, map, slice_get, Some, Contains, arith}
use Rattle.std.specs.List.{IsDistinct, list_any, AllByRecursion}
use Rattle.std.proofs.lemmas.Grind.{common_steps}
use Rattle.graph_history.specs.History.{Vertex, vertex_at}

module _ (key : Vertex → ℕ) where
  abbrev pub keys : List Vertex → List ℕ
  keys vs = map key vs

  pub length-keys : (vs : List Vertex) → length (keys vs) ≡ length vs
  length-keys [] = refl
  length-keys (v ∷ vs) = ap suc (length-keys vs)

  -- a key is that of a vertex
  pub key_at : (vs : List Vertex) (x : ℕ) → Contains (keys vs) x → (k : ℕ) × (v : Vertex) × (slice_get vs k ≡ Some v) × (key v ≡ x)
  key_at [] x (k, below, is) = absurd (omega arith)
  key_at (v ∷ vs) x (zero, below, is) = (zero, v, refl, is)
  key_at (v ∷ vs) x (suc k, below, is) = let r = key_at vs x (k, omega arith, is) in (suc r.0, r.1, r.2, r.3)

  pub has_key : (vs : List Vertex) (k : ℕ) (v : Vertex) → slice_get vs k ≡ Some v → Contains (keys vs) (key v)
  has_key [] k v at = cc
  has_key (u ∷ vs) zero v at = let same : u ≡ v = cc in (zero, omega arith, ap key same)
  has_key (u ∷ vs) (suc k) v at = let r = has_key vs k v at in (suc r.0, omega (arith, r.1), r.2)

  pub no_key : (vs : List Vertex) (x : ℕ) → ((k : ℕ) (v : Vertex) → slice_get vs k ≡ Some v → key v ≡ x → ⊥) → list_any (nat_eq x) (keys vs) ≡ false
  no_key [] x none = refl
  no_key (v ∷ vs) x none =
      let rest = no_key vs x (λ k u at. none (suc k) u at) in
      let head : key v ≡ x → ⊥ = none zero v refl in
      grind (arith, common_steps)

  -- different vertices have different keys
  abbrev pub AreApart : List Vertex → Type 0
  AreApart vs = (i j : ℕ) (u v : Vertex) → slice_get vs i ≡ Some u → slice_get vs j ≡ Some v → key u ≡ key v → i ≡ j

  pub distinct_keys : (vs : List Vertex) → AreApart vs → IsDistinct nat_eq (keys vs)
  unfolding IsDistinct
  distinct_keys [] once = tt
  distinct_keys (v ∷ vs) once = (
    none_by_any (keys vs) (key v) (no_key vs (key v) (λ k u at is. let e : suc k ≡ zero = once (suc k) zero u v at refl is in absurd (omega arith))),
    distinct_keys vs (λ i j p q at bt is. let e : suc i ≡ suc j = once (suc i) (suc j) p q at bt is in omega arith),
  )
    where
      none_by_any : (xs : List ℕ) (x : ℕ) → list_any (nat_eq x) xs ≡ false → AllByRecursion (λ y. nat_eq x y ≡ false) xs
      none_by_any [] x h = tt
      none_by_any (y ∷ xs) x h =
          let split : (nat_eq x y ≡ false) × (list_any (nat_eq x) xs ≡ false) = grind (arith, common_steps) in
          (split.0, none_by_any xs x split.1)

  -- some of them
  none_in_part : (p : Vertex → Bool) (x : ℕ) (vs : List Vertex) → AllByRecursion (λ y. nat_eq x y ≡ false) (keys vs) → AllByRecursion (λ y. nat_eq x y ≡ false) (keys (filter p vs))
  none_in_part p x [] none = tt
  none_in_part p x (v ∷ vs) none =
      let rest = none_in_part p x vs none.1 in
      elim (p v) as (λ b. AllByRecursion (λ y. nat_eq x y ≡ false) (keys (cond b (v ∷ filter p vs) (filter p vs)))) [
        | true ↦ (none.0, rest)
        | false ↦ rest
      ]

  pub distinct_part : (p : Vertex → Bool) (vs : List Vertex) → IsDistinct nat_eq (keys vs) → IsDistinct nat_eq (keys (filter p vs))
  unfolding IsDistinct
  distinct_part p [] distinct = tt
  distinct_part p (v ∷ vs) distinct =
      let rest = distinct_part p vs distinct.1 in
      elim (p v) as (λ b. IsDistinct nat_eq (keys (cond b (v ∷ filter p vs) (filter p vs)))) [
        | true ↦ (none_in_part p (key v) vs distinct.0, rest)
        | false ↦ rest
      ]

-- a vertex that passes a test
pub passing_at : (p : Vertex → Bool) (vs : List Vertex) (k : ℕ) (v : Vertex) → slice_get (filter p vs) k ≡ Some v → (j : ℕ) × (slice_get vs j ≡ Some v) × (p v ≡ true)
passing_at p [] k v h = cc
passing_at p (u ∷ vs) k v h = by (p u) refl h (λ i at. let r = passing_at p vs i v at in (suc r.0, r.1, r.2))
  where
    here : (i : ℕ) → p u ≡ true → slice_get (u ∷ filter p vs) i ≡ Some v → ((m : ℕ) → slice_get (filter p vs) m ≡ Some v → (j : ℕ) × (slice_get (u ∷ vs) j ≡ Some v) × (p v ≡ true))
        → (j : ℕ) × (slice_get (u ∷ vs) j ≡ Some v) × (p v ≡ true)
    here zero is at later = let same : u ≡ v = cc in (zero, at, subst (λ (z : Vertex). p z ≡ true) same is)
    here (suc i) is at later = later i at

    by : (b : Bool) → p u ≡ b → slice_get (cond b (u ∷ filter p vs) (filter p vs)) k ≡ Some v → ((m : ℕ) → slice_get (filter p vs) m ≡ Some v → (j : ℕ) × (slice_get (u ∷ vs) j ≡ Some v) × (p v ≡ true))
        → (j : ℕ) × (slice_get (u ∷ vs) j ≡ Some v) × (p v ≡ true)
    by true is at later = here k is at later
    by false is at later = later k at

-- the vertex of a cell stands in the list
pub vertex_in : (vs : List Vertex) (c x : ℕ) → vertex_at vs c ≡ Some x → (k : ℕ) × (slice_get vs k ≡ Some (record { cell = c; code = x }))
vertex_in [] c x h = cc
vertex_in (v ∷ vs) c x h = by (v.cell == c) refl h (λ at. let r = vertex_in vs c x at in (suc r.0, r.1))
  where
    by : (b : Bool) → (v.cell == c) ≡ b → (if b then Some v.code else vertex_at vs c) ≡ Some x
        → (vertex_at vs c ≡ Some x → (k : ℕ) × (slice_get (v ∷ vs) k ≡ Some (record { cell = c; code = x }))) → (k : ℕ) × (slice_get (v ∷ vs) k ≡ Some (record { cell = c; code = x }))
    by true is at later =
        let cell : v.cell ≡ c = grind (arith, common_steps) in
        let code : v.code ≡ x = cc in
        (zero, λ i. Some (record { cell = cell i; code = code i }))
    by false is at later = later at

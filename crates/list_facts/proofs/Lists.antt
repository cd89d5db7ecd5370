-- Lists: what they contain, and what stands where in them.
use Rattle.std.proofs.Common.{◌≡◌, refl, sym, ap, subst, ◌∙◌, ℕ, zero, suc, ◌<◌, ◌⊎◌, inl, inr, ⊎_elim, Bool, true, false, cond, List, [], ◌∷◌, ◌++◌, length, set, map, Contains, arith}
use Rattle.std.specs.List.{IsDistinct, filter}
use Rattle.std.proofs.lemmas.List.Elements.{Contains-append_cases}
use mathlib.Core.Option.{some, some-injective, some-ne-none}
use lib.ListN.{get_elem?}

-- nothing stands in the empty list, and a list in which nothing stands is empty
pub nothing_in : {A : Type 0} (a : A) → Contains [] a → ⊥
nothing_in a (k, below, is) = omega arith

-- the head of a list, and what stands behind it
pub in_first : {A : Type 0} (x : A) (xs : List A) → Contains (x ∷ xs) x
in_first x xs = (0, omega arith, refl)

pub in_rest : {A : Type 0} (x : A) (xs : List A) (a : A) → Contains xs a → Contains (x ∷ xs) a
in_rest x xs a (k, below, is) = (suc k, omega arith, is)

pub in_cons : {A : Type 0} (x : A) (xs : List A) (a : A) → Contains (x ∷ xs) a → (x ≡ a) ⊎ Contains xs a
in_cons x xs a (zero, below, is) = inl is
in_cons x xs a (suc k, below, is) = inr (k, omega arith, is)

pub nothing : {A : Type 0} (xs : List A) → ((a : A) → Contains xs a → ⊥) → xs ≡ []
nothing [] none = refl
nothing (x ∷ xs) none = absurd (none x (in_first x xs))

pub none_twice : {A : Type 0} (eq : A → A → Bool) → IsDistinct eq []
unfolding IsDistinct
none_twice eq = tt

-- what a filter keeps, and what a mapped list contains
pub filter_keeps : {A : Type 0} (test : A → Bool) (xs : List A) (a : A) → Contains xs a → test a ≡ true → Contains (filter test xs) a
filter_keeps test [] a h passes = absurd (nothing_in a h)
filter_keeps test (x ∷ xs) a h passes = by (test x) refl (in_cons x xs a h) (λ later. filter_keeps test xs a later passes)
  where
    by : (b : Bool) → test x ≡ b → (x ≡ a) ⊎ Contains xs a → (Contains xs a → Contains (filter test xs) a) → Contains (cond b (x ∷ filter test xs) (filter test xs)) a
    by true is (inl same) rest = subst (Contains (x ∷ filter test xs)) same (in_first x (filter test xs))
    by true is (inr later) rest = in_rest x (filter test xs) a (rest later)
    by false is (inl same) rest =
        let fails : test a ≡ false = ap test (sym same) ∙ is in
        cc
    by false is (inr later) rest = rest later

pub map_contains : {A B : Type 0} (f : A → B) (xs : List A) (a : A) → Contains xs a → Contains (map f xs) (f a)
map_contains f [] a h = absurd (nothing_in a h)
map_contains f (x ∷ xs) a h =
    ⊎_elim (λ same. subst (λ y. Contains (f x ∷ map f xs) (f y)) same (in_first (f x) (map f xs))) (λ later. in_rest (f x) (map f xs) (f a) (map_contains f xs a later)) (in_cons x xs a h)

-- what holds of each item
abbrev pub Each : {A : Type 0} → (A → Type 0) → List A → Type 0
Each {A} P xs = (a : A) → Contains xs a → P a

pub each_cons : {A : Type 0} (P : A → Type 0) (x : A) (xs : List A) → P x → Each P xs → Each P (x ∷ xs)
each_cons P x xs here there a h = ⊎_elim (λ same. subst P same here) (λ later. there a later) (in_cons x xs a h)

pub each_both : {A : Type 0} (P : A → Type 0) (xs ys : List A) → Each P xs → Each P ys → Each P (xs ++ ys)
each_both P xs ys left right a h = ⊎_elim (λ k. left a k) (λ k. right a k) (Contains-append_cases xs ys a h)

-- places
pub within : {A : Type 0} (xs : List A) (a : A) (k : ℕ) → get_elem? xs k ≡ some a → k < length xs
within [] a k is = absurd (some-ne-none a (sym is))
within (x ∷ xs) a zero is = omega arith
within (x ∷ xs) a (suc k) is = let rest = within xs a k is in omega arith

pub at_here : {A : Type 0} (xs : List A) (k : ℕ) (old new : A) → get_elem? xs k ≡ some old → get_elem? (set xs k new) k ≡ some new
at_here [] k old new is = absurd (some-ne-none old (sym is))
at_here (x ∷ xs) zero old new is = refl
at_here (x ∷ xs) (suc k) old new is = at_here xs k old new is

pub at_end : {A : Type 0} (xs : List A) (last a : A) (k : ℕ) → get_elem? (xs ++ last ∷ []) k ≡ some a → (get_elem? xs k ≡ some a) ⊎ ((k ≡ length xs) × (last ≡ a))
at_end [] last a zero is = inr (refl, some-injective last a is)
at_end [] last a (suc k) is = absurd (some-ne-none a (sym is))
at_end (x ∷ xs) last a zero is = inl is
at_end (x ∷ xs) last a (suc k) is = ⊎_elim (λ h. inl h) (λ h. inr (omega (arith, h.0), h.1)) (at_end xs last a k is)

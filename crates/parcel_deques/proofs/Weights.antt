-- What lists weigh.
use Rattle.std.proofs.Common.{◌≡◌, ◌≢◌, ◌∙◌, refl, sym, ap, ℕ, zero, suc, ◌+◌, ◌≤◌, List, [], ◌∷◌, ◌++◌, length, set, arith}
use mathlib.Core.Option.{some, some-injective, some-ne-none}
use lib.ListN.{get_elem?}
use Rattle.parcel_deques.specs.Lists.{weigh, SameItems}

module _ {T : Type 0} (h : T → ℕ) where
  pub weigh-append : (xs ys : List T) → weigh h (xs ++ ys) ≡ weigh h xs + weigh h ys
  weigh-append [] ys = omega arith
  weigh-append (x ∷ xs) ys = let rest = weigh-append xs ys in omega arith

  pub weigh-push : (xs : List T) (y : T) → weigh h (xs ++ y ∷ []) ≡ weigh h xs + h y
  weigh-push [] y = omega arith
  weigh-push (x ∷ xs) y = let rest = weigh-push xs y in omega arith

  pub weigh-set : (xs : List T) (k : ℕ) (x y : T) → get_elem? xs k ≡ some x → weigh h (set xs k y) + h x ≡ weigh h xs + h y
  weigh-set [] k x y at = absurd (some-ne-none x (sym at))
  weigh-set (z ∷ zs) zero x y at = let e : h z ≡ h x = ap h (some-injective z x at) in omega arith
  weigh-set (z ∷ zs) (suc k) x y at = let rest = weigh-set zs k x y at in omega arith

  pub weigh-at : (xs : List T) (k : ℕ) (x : T) → get_elem? xs k ≡ some x → h x ≤ weigh h xs
  weigh-at [] k x at = absurd (some-ne-none x (sym at))
  weigh-at (z ∷ zs) zero x at = let e : h z ≡ h x = ap h (some-injective z x at) in omega arith
  weigh-at (z ∷ zs) (suc k) x at = let rest = weigh-at zs k x at in omega arith

  pub weigh-two : (xs : List T) (i j : ℕ) (x y : T) → get_elem? xs i ≡ some x → get_elem? xs j ≡ some y → j ≢ i → h x + h y ≤ weigh h xs
  weigh-two [] i j x y p q n = absurd (some-ne-none x (sym p))
  weigh-two (z ∷ zs) zero zero x y p q n = absurd (n refl)
  weigh-two (z ∷ zs) zero (suc j) x y p q n = let e : h z ≡ h x = ap h (some-injective z x p) in let rest = weigh-at zs j y q in omega arith
  weigh-two (z ∷ zs) (suc i) zero x y p q n = let e : h z ≡ h y = ap h (some-injective z y q) in let rest = weigh-at zs i x p in omega arith
  weigh-two (z ∷ zs) (suc i) (suc j) x y p q n = let rest = weigh-two zs i j x y p q (λ e. n (ap suc e)) in omega arith

module _ {T : Type 0} where
  -- as a weight of 1 each, a list weighs its length
  pub weigh_ones : (xs : List T) → weigh (λ (x : T). 1) xs ≡ length xs
  weigh_ones [] = refl
  weigh_ones (x ∷ xs) = let rest = weigh_ones xs in omega arith

  pub no_items : (xs : List T) → length xs ≤ 0 → xs ≡ []
  no_items [] few = refl
  no_items (x ∷ xs) few = absurd (omega arith)

  pub same_length : (xs ys : List T) → SameItems xs ys → length xs ≡ length ys
  same_length xs ys same = sym (weigh_ones xs) ∙ same (λ (x : T). 1) ∙ weigh_ones ys

  -- all weigh nothing but one
  pub weigh_alone : (h : T → ℕ) (xs : List T) (k : ℕ) (x : T) → get_elem? xs k ≡ some x → ((j : ℕ) (y : T) → j ≢ k → get_elem? xs j ≡ some y → h y ≡ 0) → weigh h xs ≡ h x
  weigh_alone h [] k x at none = absurd (some-ne-none x (sym at))
  weigh_alone h (z ∷ zs) zero x at none = let e : h z ≡ h x = ap h (some-injective z x at) in let rest = nothing zs (λ j y p. none (suc j) y (λ q. suc_ne_zero j q) p) in omega arith
    where
      suc_ne_zero : (j : ℕ) → suc j ≡ 0 → ⊥
      suc_ne_zero j q = omega arith

      nothing : (ys : List T) → ((j : ℕ) (y : T) → get_elem? ys j ≡ some y → h y ≡ 0) → weigh h ys ≡ 0
      nothing [] each = refl
      nothing (y ∷ ys) each = let first = each 0 y refl in let rest = nothing ys (λ j u p. each (suc j) u p) in omega arith
  weigh_alone h (z ∷ zs) (suc k) x at none = let first = none 0 z (λ q. zero_ne_suc k q) refl in let rest = weigh_alone h zs k x at (λ j y other p. none (suc j) y (λ q. other (down j k q)) p) in omega arith
    where
      zero_ne_suc : (k : ℕ) → 0 ≡ suc k → ⊥
      zero_ne_suc k q = omega arith

      down : (j k : ℕ) → suc j ≡ suc k → j ≡ k
      down j k q = omega arith

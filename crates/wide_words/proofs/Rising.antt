-- Lists of different numbers, put in order.
use Rattle.std.proofs.Common.{◌≡◌, refl, sym, subst, ℕ, zero, suc, ◌+◌, ◌<◌, ◌≤◌, inl, inr, true, false, nat_eq, nat_lt, if◌then◌else◌, List, [], ◌∷◌, slice_index, arith}
use Rattle.std.specs.Bool.{⊤}
use Rattle.std.specs.List.{IsDistinct, AllByRecursion}
use Rattle.std.specs.List.Sorted.{IsPermutation, IsStrictlyIncreasing}
use Rattle.std.proofs.lemmas.Bool.{cases_lt}
use Rattle.std.proofs.lemmas.Bool.Decides.{nat_tests}
use Rattle.std.proofs.lemmas.List.Sorted.{IsPermutation-refl, IsPermutation-cons, IsPermutation-trans, IsPermutation-middle}
use Rattle.std.proofs.lemmas.Map.Keys.{IsDistinct-head, IsDistinct-tail}

-- all numbers of a list are above x; each number is above those before it
abbrev Above : ℕ → List ℕ → Type 0
Above x [] = ⊤
Above x (y ∷ ys) = (x < y) × Above x ys

abbrev Ascends : List ℕ → Type 0
Ascends [] = ⊤
Ascends (y ∷ ys) = Above y ys × Ascends ys

-- no number of the list is x
abbrev HasNone : ℕ → List ℕ → Type 0
HasNone x ys = AllByRecursion (λ y. nat_eq x y ≡ false) ys

-- a number put before the first that is above it, and a list put in order
abbrev placed : ℕ → List ℕ → List ℕ
placed x [] = x ∷ []
placed x (y ∷ ys) = if nat_lt x y then x ∷ y ∷ ys else y ∷ placed x ys

abbrev pub in_order : List ℕ → List ℕ
in_order [] = []
in_order (x ∷ xs) = placed x (in_order xs)

placed_before : (x y : ℕ) (ys : List ℕ) → x < y → placed x (y ∷ ys) ≡ x ∷ y ∷ ys
placed_before x y ys less = let test : nat_lt x y ≡ true = grind (arith, nat_tests) in rw test refl

placed_behind : (x y : ℕ) (ys : List ℕ) → y ≤ x → placed x (y ∷ ys) ≡ y ∷ placed x ys
placed_behind x y ys least = let test : nat_lt x y ≡ false = grind (arith, nat_tests) in rw test refl

placed_permutes : (x : ℕ) (ys : List ℕ) → IsPermutation (x ∷ ys) (placed x ys)
placed_permutes x [] = IsPermutation-refl (x ∷ [])
placed_permutes x (y ∷ ys) = elim (cases_lt x y) [
  | inl less ↦ rw (placed_before x y ys less) (IsPermutation-refl (x ∷ y ∷ ys))
  | inr least ↦ rw (placed_behind x y ys least)
      (IsPermutation-trans (x ∷ y ∷ ys) (y ∷ x ∷ ys) (y ∷ placed x ys) (IsPermutation-middle (x ∷ []) y ys) (IsPermutation-cons y (x ∷ ys) (placed x ys) (placed_permutes x ys)))
]

pub in_order_permutes : (xs : List ℕ) → IsPermutation xs (in_order xs)
in_order_permutes [] = IsPermutation-refl []
in_order_permutes (x ∷ xs) =
    IsPermutation-trans (x ∷ xs) (x ∷ in_order xs) (placed x (in_order xs)) (IsPermutation-cons x xs (in_order xs) (in_order_permutes xs)) (placed_permutes x (in_order xs))

above_later : (x y : ℕ) (ys : List ℕ) → x < y → Above y ys → Above x ys
above_later x y [] less h = tt
above_later x y (z ∷ ys) less h = (omega (arith, h.0), above_later x y ys less h.1)

above_placed : (x y : ℕ) (ys : List ℕ) → y < x → Above y ys → Above y (placed x ys)
above_placed x y [] less h = (less, tt)
above_placed x y (z ∷ ys) less h = elim (cases_lt x z) [
  | inl before ↦ rw (placed_before x z ys before) (less, h)
  | inr least ↦ rw (placed_behind x z ys least) (h.0, above_placed x y ys less h.1)
]

none_placed : (x y : ℕ) (ys : List ℕ) → nat_eq y x ≡ false → HasNone y ys → HasNone y (placed x ys)
none_placed x y [] other h = (other, tt)
none_placed x y (z ∷ ys) other h = elim (cases_lt x z) [
  | inl before ↦ rw (placed_before x z ys before) (other, h)
  | inr least ↦ rw (placed_behind x z ys least) (h.0, none_placed x y ys other h.1)
]

none_in_order : (y : ℕ) (xs : List ℕ) → HasNone y xs → HasNone y (in_order xs)
none_in_order y [] h = tt
none_in_order y (x ∷ xs) h = none_placed x y (in_order xs) h.0 (none_in_order y xs h.1)

ascends_placed : (x : ℕ) (ys : List ℕ) → HasNone x ys → Ascends ys → Ascends (placed x ys)
ascends_placed x [] none h = (tt, tt)
ascends_placed x (y ∷ ys) none h = elim (cases_lt x y) [
  | inl before ↦ rw (placed_before x y ys before) ((before, above_later x y ys before h.0), h)
  | inr least ↦
      let other : nat_eq x y ≡ false = none.0 in
      let less : y < x = grind (arith, nat_tests) in
      rw (placed_behind x y ys least) (above_placed x y ys less h.0, ascends_placed x ys none.1 h.1)
]

ascends_in_order : (xs : List ℕ) → IsDistinct nat_eq xs → Ascends (in_order xs)
ascends_in_order [] distinct = tt
ascends_in_order (x ∷ xs) distinct =
    ascends_placed x (in_order xs) (none_in_order x xs (IsDistinct-head nat_eq x xs distinct)) (ascends_in_order xs (IsDistinct-tail nat_eq x xs distinct))

ascending : (xs : List ℕ) → Ascends xs → IsStrictlyIncreasing xs
ascending [] h k within = absurd (omega arith)
ascending (x ∷ []) h k within = absurd (omega arith)
ascending (x ∷ y ∷ ys) h zero within = h.0.0
ascending (x ∷ y ∷ ys) h (suc k) within =
    let next : suc k + 1 ≡ suc (k + 1) = omega arith in
    subst (λ (n : ℕ). slice_index (y ∷ ys) k < slice_index (x ∷ y ∷ ys) n) (sym next) (ascending (y ∷ ys) h.1 k (omega arith))

pub in_order_increases : (xs : List ℕ) → IsDistinct nat_eq xs → IsStrictlyIncreasing (in_order xs)
in_order_increases xs distinct = ascending (in_order xs) (ascends_in_order xs distinct)

-- Numbers of a range that pass a test.
use Rattle.std.proofs.Common.{◌≡◌, refl, sym, inl, inr, ◌⊎◌, ℕ, zero, suc, ◌+◌, ◌≤◌, ◌<◌, Bool, true, false, cond, nat_eq, IsTrue, List, [], ◌∷◌, ◌++◌, length, Contains, ◌↔◌, arith}
use Rattle.std.specs.List.{filter, range_with_len, list_any}
use Rattle.std.specs.List.Sorted.{IsStrictlyIncreasing}
use Rattle.std.proofs.lemmas.Bool.{cases_eq}
use Rattle.std.proofs.lemmas.Bool.Decides.{nat_tests}
use Rattle.std.proofs.lemmas.List.{append-nil, map-id}
use Rattle.std.proofs.lemmas.List.Elements.{Contains-get_or}
use Rattle.std.proofs.lemmas.List.Folds.{list_any_none}
use Rattle.std.proofs.lemmas.List.FromFn.{length-range_with_len, get_or-range_with_len, filter_of_map_range_with_len_more}
use Rattle.std.proofs.lemmas.List.Kept.{IsStrictlyIncreasing-filter}
use Rattle.indexmap.specs.IndexSet.{insert_key}

-- Membership in a list with a first element, which is left out where a test fails.
here : (b : Bool) (y : ℕ) (ys : List ℕ) → b ≡ true → Contains (cond b (y ∷ ys) ys) y
here true y ys h = (zero, omega arith, refl)
here false y ys h = cc

later : (b : Bool) (y : ℕ) (ys : List ℕ) (c : ℕ) → Contains ys c → Contains (cond b (y ∷ ys) ys) c
later true y ys c (k, below, is) = (suc k, omega arith, is)
later false y ys c there = there

first_or_later : (b : Bool) (y : ℕ) (ys : List ℕ) (c : ℕ) → Contains (cond b (y ∷ ys) ys) c → ((b ≡ true) × (y ≡ c)) ⊎ Contains ys c
first_or_later true y ys c (zero, below, is) = inl (refl, is)
first_or_later true y ys c (suc k, below, is) = inr (k, omega arith, is)
first_or_later false y ys c there = inr there

pub kept : (p : ℕ → Bool) (a n k : ℕ) → a ≤ k → k < a + n → p k ≡ true → Contains (filter p (range_with_len a n)) k
kept p a zero k low high passes = absurd (omega arith)
kept p a (suc n) k low high passes = elim (cases_eq a k) [
  | inl is ↦ let first : p a ≡ true = rw is passes in rw (sym is) (here (p a) a (filter p (range_with_len (a + 1) n)) first)
  | inr other ↦ later (p a) a (filter p (range_with_len (a + 1) n)) k (kept p (a + 1) n k (omega arith) (omega arith) passes)
]

pub kept_back : (p : ℕ → Bool) (a n k : ℕ) → Contains (filter p (range_with_len a n)) k → (a ≤ k) × (k < a + n) × (p k ≡ true)
kept_back p a zero k there = absurd (omega (arith, there.1))
kept_back p a (suc n) k there = elim (first_or_later (p a) a (filter p (range_with_len (a + 1) n)) k there) [
  | inl first ↦ let is : a ≡ k = first.1 in (omega arith, omega arith, rw is at first.0)
  | inr rest ↦
      let back = kept_back p (a + 1) n k rest in
      let low : a + 1 ≤ k = back.0 in
      let high : k < a + 1 + n = back.1 in
      (omega arith, omega arith, back.2)
]

-- the numbers below n that pass a test
pub kept_below : (p : ℕ → Bool) (n k : ℕ) → k < n → Contains (filter p (range_with_len 0 n)) k ↔ IsTrue (p k)
kept_below p n k below = (λ there. (kept_back p 0 n k there).2, λ passes. kept p 0 n k (omega arith) (omega arith) passes)

range_ascends : (a n : ℕ) → IsStrictlyIncreasing (range_with_len a n)
range_ascends a n k below =
    let size : length (range_with_len a n) ≡ n = length-range_with_len a n in
    omega (arith, get_or-range_with_len a n k 0 (omega arith), get_or-range_with_len a n (k + 1) 0 (omega arith))

pub kept_ascend : (p : ℕ → Bool) (n : ℕ) → IsStrictlyIncreasing (filter p (range_with_len 0 n))
kept_ascend p n = IsStrictlyIncreasing-filter p (range_with_len 0 n) (range_ascends 0 n)

-- one number more
pub kept_more : (p : ℕ → Bool) (n : ℕ) → filter p (range_with_len 0 (n + 1)) ≡ filter p (range_with_len 0 n) ++ cond (p n) (n ∷ []) []
kept_more p n =
    let more = filter_of_map_range_with_len_more p (λ x. x) 0 n n (omega arith) in
    rw (map-id (range_with_len 0 (n + 1)), map-id (range_with_len 0 n)) at more

-- n is not among the numbers below it
pub not_yet : (p : ℕ → Bool) (n : ℕ) → list_any (nat_eq n) (filter p (range_with_len 0 n)) ≡ false
not_yet p n = list_any_none (nat_eq n) (filter p (range_with_len 0 n)) (λ j d low. other _ (kept_back p 0 n _ (Contains-get_or _ j d low)).1)
  where
    other : (k : ℕ) → k < 0 + n → nat_eq n k ≡ false
    other k below = let apart : k < n = omega arith in grind (arith, nat_tests)

-- one rank is put into a set of ranks, or left out
pub rank_kept : (p : ℕ → Bool) (n : ℕ) (old new : List ℕ) → p n ≡ true → old ≡ filter p (range_with_len 0 n) → new ≡ insert_key nat_eq old n
    → new ≡ filter p (range_with_len 0 (n + 1))
rank_kept p n old new passes before is = rw (is, before, not_yet p n, kept_more p n, passes) refl

pub rank_passed : (p : ℕ → Bool) (n : ℕ) (old : List ℕ) → p n ≡ false → old ≡ filter p (range_with_len 0 n) → old ≡ filter p (range_with_len 0 (n + 1))
rank_passed p n old fails before = rw (before, kept_more p n, fails, append-nil) refl

-- Eight numbers, of which the first n are given by a function that is 0 past n.
use Rattle.std.proofs.Common.{◌≡◌, ◌∙◌, sym, ℕ, ◌+◌, ◌≤◌, ◌<◌, nat_le, false, if◌then◌else◌, List, length, map, get_or, inl, inr, refl, arith, ap, ◌-◌, true}
use Rattle.crystal_cartan.specs.Types.{CartanType, HasIndex}
use Rattle.std.specs.List.{range_with_len}
use Rattle.std.proofs.lemmas.Bool.{cases_lt}
use Rattle.std.proofs.lemmas.Bool.Decides.{nat_tests}
use Rattle.std.proofs.lemmas.List.{ext_get_or}
use Rattle.std.proofs.lemmas.List.FromFn.{length-map-range_with_len, get_or-map-range_with_len}

pub eight_numbers : (g : ℕ → ℕ) (xs : List ℕ) (n : ℕ) → n ≤ 8 → length xs ≡ 8 → ((k : ℕ) → k < n → get_or xs k 0 ≡ g (k + 1))
    → ((k : ℕ) → n ≤ k → get_or xs k 0 ≡ 0) → ((i : ℕ) → n < i → g i ≡ 0) → xs ≡ map g (range_with_len 1 8)
eight_numbers g xs n few size given rest past =
    ext_get_or 0 xs (map g (range_with_len 1 8)) (size ∙ sym (length-map-range_with_len g 1 8)) (λ k lt.
    let place : 1 + k ≡ k + 1 = omega arith in
    let low : k < 8 = omega arith in
    let right : get_or (map g (range_with_len 1 8)) k 0 ≡ g (k + 1) = get_or-map-range_with_len g 1 8 k (k + 1) 0 low place in
    elim (cases_lt k n) [
      | inl less ↦ given k less ∙ sym right
      | inr over ↦ rest k over ∙ sym (past (k + 1) (omega arith)) ∙ sym right
    ])

pub past_rank : (r i x : ℕ) → r < i → (if nat_le i r then x else 0) ≡ 0
past_rank r i x less =
    let over : nat_le i r ≡ false = grind (arith, nat_tests) in
    rw over refl

-- the numbers of the indices of a type, and 0 behind them
pub index_numbers : (t : CartanType) (of : ℕ → ℕ) (entries xs : List ℕ) (r : ℕ) → r ≡ t.rank → r ≤ 8 → length xs ≡ 8
    → ((k : ℕ) → k < r → get_or xs k 0 ≡ get_or entries k 0) → ((k : ℕ) → r ≤ k → get_or xs k 0 ≡ 0)
    → ((i : ℕ) → HasIndex t i → get_or entries (i - 1) 0 ≡ of i) → xs ≡ map (λ i. if nat_le i t.rank then of i else 0) (range_with_len 1 8)
index_numbers t of entries xs r width few size first rest told =
    eight_numbers (λ i. if nat_le i t.rank then of i else 0) xs r few size given rest (λ i less. past_rank t.rank i (of i) (omega (arith, width, less)))
  where
    given : (k : ℕ) → k < r → get_or xs k 0 ≡ (if nat_le (k + 1) t.rank then of (k + 1) else 0)
    given k lt =
        let back : k + 1 - 1 ≡ k = omega arith in
        let inside : nat_le (k + 1) t.rank ≡ true = grind (arith, nat_tests) in
        first k lt ∙ ap (λ j. get_or entries j 0) (sym back) ∙ told (k + 1) (record { low = omega arith; high = omega (arith, width, lt) })
        ∙ ap (λ b. if b then of (k + 1) else 0) (sym inside)

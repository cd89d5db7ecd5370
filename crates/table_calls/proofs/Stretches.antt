-- The two straight stretches of a path, but for its last cell.
use Rattle.std.proofs.Common.{◌≡◌, ap, ◌∙◌, ℕ, ◌+◌, ◌-◌, ◌%◌, ◌<◌, ◌≤◌, ◌⊎◌, inl, inr, min, arith}
use Rattle.std.proofs.Math.Nat.{mod-eq_of_lt, mod_self}

mod_whole : (a n : ℕ) → a ≡ n → a % n ≡ 0
mod_whole a n is = ap (λ (b : ℕ). b % n) is ∙ mod_self n

pub straight_cell : (c j n : ℕ) → c + j < n → (c + j) % n ≡ c + j
straight_cell c j n less = mod-eq_of_lt less

zero_or : (n : ℕ) → (n ≡ 0) ⊎ (0 < n)
zero_or n = grind arith

module _ (start cells turn : ℕ) (below : start < cells) (is : turn ≡ min (cells - start) (cells - 1)) where
  pub turn_within : start + turn ≤ cells
  turn_within = omega arith

  pub next_straight : (start + turn) % cells + (cells - 1 - turn) < cells
  next_straight = by (zero_or start)
    where
      by : (start ≡ 0) ⊎ (0 < start) → (start + turn) % cells + (cells - 1 - turn) < cells
      by (inl none) = let same = straight_cell start turn cells (omega arith) in omega arith
      by (inr some) = let same = mod_whole (start + turn) cells (omega arith) in omega arith

-- Numbers. What their tests say is in std: lt-ltb, ltb-true, le-ltb, ltb-false, eq-eqb and eqb-true; cases_order tells which of two
-- is the lower.
use Rattle.std.proofs.Common.{ℕ, ◌≡◌, ◌+◌, ◌*◌, ◌<◌, ◌≤◌, ◌⊎◌, mul-le-mul_right, arith}

-- a number below the next of another
pub below_or_last : (k n : ℕ) → k < n + 1 → (k < n) ⊎ (k ≡ n)
below_or_last k n h = grind arith

-- a place in a table of rows of one length
pub in_row : (row rows long place : ℕ) → row < rows → place < long → row * long + place < rows * long
in_row row rows long place low within =
    let whole : (row + 1) * long ≤ rows * long = mul-le-mul_right long (omega arith) in
    omega (arith, whole)

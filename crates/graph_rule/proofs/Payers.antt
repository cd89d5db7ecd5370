-- Who pays a cell, after a seat took it on.
use Rattle.std.proofs.Common.{◌≡◌, ◌≢◌, ℕ, nat_eq, if◌then◌else◌, arith}
use Rattle.std.proofs.lemmas.Grind.{common_steps}

abbrev pub repay : (ℕ → ℕ) → ℕ → ℕ → ℕ → ℕ
repay payer c id d = if nat_eq d c then id else payer d

pub repay_same : (payer : ℕ → ℕ) (c id d : ℕ) → d ≡ c → repay payer c id d ≡ id
repay_same payer c id d e = grind (arith, common_steps)

pub repay_other : (payer : ℕ → ℕ) (c id d : ℕ) → d ≢ c → repay payer c id d ≡ payer d
repay_other payer c id d e = grind (arith, common_steps)

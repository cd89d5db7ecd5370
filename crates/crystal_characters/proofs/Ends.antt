-- Tests of every index.
use Rattle.std.proofs.Common.{◌≡◌, refl, ℕ, zero, suc, ◌+◌, ◌<◌, Bool, true, false, ◌&&◌, arith}
use Rattle.std.specs.List.{list_all, range_with_len}

-- the first n indices pass, and the next one too
pub all_more : (p : ℕ → Bool) (a n j : ℕ) → a + n ≡ j → list_all p (range_with_len a n) ≡ true → p j ≡ true → list_all p (range_with_len a (n + 1)) ≡ true
all_more p a zero j at before here =
    let same : a ≡ j = omega arith in
    rw (same, here) refl
all_more p a (suc n) j at before here = by (p a) refl (λ h. all_more p (a + 1) n j (omega arith) h here) before
  where
    by : (b : Bool) → p a ≡ b → (list_all p (range_with_len (a + 1) n) ≡ true → list_all p (range_with_len (a + 1) (n + 1)) ≡ true)
        → (b && list_all p (range_with_len (a + 1) n)) ≡ true → list_all p (range_with_len a (suc n + 1)) ≡ true
    by true is rest h =
        let count : suc n + 1 ≡ suc (n + 1) = omega arith in
        rw (count, is) (rest h)
    by false is rest h = cc

-- an index that does not pass
pub one_fails : (p : ℕ → Bool) (a n k j : ℕ) → k < n → a + k ≡ j → p j ≡ false → false ≡ list_all p (range_with_len a n)
one_fails p a zero k j lt at here = absurd (omega arith)
one_fails p a (suc n) zero j lt at here =
    let same : a ≡ j = omega arith in
    rw (same, here) refl
one_fails p a (suc n) (suc k) j lt at here = by (p a) (one_fails p (a + 1) n k j (omega arith) (omega arith) here)
  where
    by : (b : Bool) → false ≡ list_all p (range_with_len (a + 1) n) → false ≡ (b && list_all p (range_with_len (a + 1) n))
    by true rest = rest
    by false rest = refl

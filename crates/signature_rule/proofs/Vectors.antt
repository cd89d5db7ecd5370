-- Operations on vectors of eight bytes, entry by entry.
use Rattle.std.proofs.Common.{◌≡◌, ◌∙◌, sym, ap, ℕ, ◌+◌, ◌-◌, ◌%◌, ◌^◌, ◌<◌, Bool, true, false, cond, ltb, List, length, map, get_or, inl, inr, w8, Fits, arith}
use Rattle.std.specs.Simd.Lanes.{zip2, sel_l, top, Each1}
use Rattle.std.proofs.lemmas.Bool.{cases_lt}
use Rattle.std.proofs.lemmas.Bool.Decides.{nat_tests}
use Rattle.std.proofs.lemmas.Simd.{length-zip2, get_or-zip2, length-sel_l, get_or-sel_l, tops_compared, Each1-get_or}

-- a list of eight bytes
abbrev pub AreBytes : List ℕ → Type 0
AreBytes xs = (length xs ≡ 8) × Each1 (Fits w8) xs

pub byte_at : (xs : List ℕ) (j : ℕ) → AreBytes xs → j < 8 → get_or xs j 0 < 256
byte_at xs j h lt = (Each1-get_or (Fits w8) xs j 0 (omega arith) h.1).fits

-- what a comparison gives: all ones, or 0
abbrev pub marks : (ℕ → ℕ → Bool) → List ℕ → List ℕ → List ℕ
marks t xs ys = zip2 (λ a b. cond (t a b) 255 0) xs ys

-- a choice by a comparison
abbrev pub chosen : (ℕ → ℕ → Bool) → List ℕ → List ℕ → List ℕ → List ℕ → List ℕ
chosen t xs ys us vs = sel_l (map (top 7) (marks t xs ys)) us vs

module _ (t : ℕ → ℕ → Bool) (xs ys us vs : List ℕ) (p : length xs ≡ 8) (q : length ys ≡ 8) (r : length us ≡ 8) (u : length vs ≡ 8) where
  compared : length (zip2 t xs ys) ≡ 8
  compared = length-zip2 t xs ys (p ∙ sym q) ∙ p

  plain : chosen t xs ys us vs ≡ sel_l (zip2 t xs ys) us vs
  plain = ap (λ ms. sel_l ms us vs) (tops_compared w8 t xs ys)

  pub length-chosen : length (chosen t xs ys us vs) ≡ 8
  length-chosen = ap length plain ∙ length-sel_l (zip2 t xs ys) us vs (compared ∙ sym r) (compared ∙ sym u) ∙ compared

  pub entry-chosen : (j : ℕ) → j < 8 → get_or (chosen t xs ys us vs) j 0 ≡ cond (t (get_or xs j 0) (get_or ys j 0)) (get_or us j 0) (get_or vs j 0)
  entry-chosen j lt =
      let long : length (zip2 t xs ys) ≡ 8 = compared in
      ap (λ ws. get_or ws j 0) plain
      ∙ get_or-sel_l (zip2 t xs ys) us vs j 0 (omega arith) (omega arith) (omega arith)
      ∙ ap (λ b. cond b (get_or us j 0) (get_or vs j 0)) (get_or-zip2 t xs ys j 0 0 false (omega arith) (omega arith))

-- differences and sums, modulo 256
abbrev pub differences : List ℕ → List ℕ → List ℕ
differences xs ys = zip2 (λ a b. (a + (2 ^ 8 - b)) % 2 ^ 8) (chosen ltb xs ys ys xs) ys

abbrev pub sums : List ℕ → List ℕ → List ℕ
sums xs ys = zip2 (λ a b. (a + b) % 2 ^ 8) xs ys

-- the difference where the second is not larger, and else 0
less : (x y m : ℕ) → x < 256 → y < 256 → m ≡ cond (ltb x y) y x → (m + (2 ^ 8 - y)) % 2 ^ 8 ≡ x - y
less x y m small other is =
    elim (cases_lt x y) [
      | inl below ↦
          let test : ltb x y ≡ true = grind (arith, nat_tests) in
          let m_is : m ≡ y = rw test at is in
          omega arith
      | inr above ↦
          let test : ltb x y ≡ false = grind (arith, nat_tests) in
          let m_is : m ≡ x = rw test at is in
          omega arith
    ]

pub length-differences : (xs ys : List ℕ) → length xs ≡ 8 → length ys ≡ 8 → length (differences xs ys) ≡ 8
length-differences xs ys p q =
    let long : length (chosen ltb xs ys ys xs) ≡ 8 = length-chosen ltb xs ys ys xs p q q p in
    length-zip2 (λ a b. (a + (2 ^ 8 - b)) % 2 ^ 8) (chosen ltb xs ys ys xs) ys (long ∙ sym q) ∙ long

pub entry-differences : (xs ys : List ℕ) (j : ℕ) → AreBytes xs → AreBytes ys → j < 8 → get_or (differences xs ys) j 0 ≡ get_or xs j 0 - get_or ys j 0
entry-differences xs ys j p q lt =
    let long : length (chosen ltb xs ys ys xs) ≡ 8 = length-chosen ltb xs ys ys xs p.0 q.0 q.0 p.0 in
    get_or-zip2 (λ a b. (a + (2 ^ 8 - b)) % 2 ^ 8) (chosen ltb xs ys ys xs) ys j 0 0 0 (omega arith) (omega arith)
    ∙ less (get_or xs j 0) (get_or ys j 0) (get_or (chosen ltb xs ys ys xs) j 0) (byte_at xs j p lt) (byte_at ys j q lt) (entry-chosen ltb xs ys ys xs p.0 q.0 q.0 p.0 j lt)

pub length-sums : (xs ys : List ℕ) → length xs ≡ 8 → length ys ≡ 8 → length (sums xs ys) ≡ 8
length-sums xs ys p q = length-zip2 (λ a b. (a + b) % 2 ^ 8) xs ys (p ∙ sym q) ∙ p

pub entry-sums :
    (xs ys : List ℕ) (j : ℕ) → length xs ≡ 8 → length ys ≡ 8 → j < 8 → get_or xs j 0 + get_or ys j 0 < 256 → get_or (sums xs ys) j 0 ≡ get_or xs j 0 + get_or ys j 0
entry-sums xs ys j p q lt small =
    let at : get_or (sums xs ys) j 0 ≡ (get_or xs j 0 + get_or ys j 0) % 2 ^ 8 = get_or-zip2 (λ a b. (a + b) % 2 ^ 8) xs ys j 0 0 0 (omega arith) (omega arith) in
    omega arith

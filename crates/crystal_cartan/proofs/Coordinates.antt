-- Weights read by their coordinates.
use Rattle.std.proofs.Common.{ℕ, ◌≡◌, ◌+◌, ◌-◌, ◌≤◌, ◌<◌, List, length, take, drop, slice_set, slice_index_or, ℤ, ◌+ℤ◌, pos, replicate, length-set, inl, inr, zero, suc, negsuc, ◌≤ℤ◌, ◌*ℤ◌, refl, sym, ap, subst, length-take, ◌∙◌, arith}
use Rattle.std.proofs.lemmas.List.{take-replicate, drop-replicate, length-replicate, get_or-replicate, get_or-set_other, get_or-drop, get_or-take, length-drop, ext_get_or}
use Rattle.std.proofs.lemmas.Grind.{get_or-set_at}
use Rattle.std.proofs.lemmas.Bool.{cases_eq, cases_lt}
use Rattle.std.proofs.lemmas.Int.{ints}
use Rattle.std.proofs.lemmas.List.FromFn.{length-map-range_with_len, get_or-map-range_with_len}
use Rattle.crystal_cartan.specs.Padded.{IsPadded, length-take_padded}
use Rattle.crystal_cartan.specs.Types.{CartanType, IsCartan, coordinates, coordinates_of}
use Rattle.crystal_cartan.specs.Weights.{weight_from, coordinate, sum_of, IsSmall, IsSmallCoordinate}
use Rattle.crystal_cartan.specs.declared.types.Kind.{Kind}
use Rattle.crystal_cartan.specs.declared.types.Kind.TheVariants.{A, B, C, D}

pub length-weight_from : (n : ℕ) (f : ℕ → ℤ) → length (weight_from n f) ≡ n
length-weight_from n f = length-map-range_with_len f 1 n

pub coordinate-weight_from : (n : ℕ) (f : ℕ → ℤ) (j : ℕ) → 1 ≤ j → j ≤ n → coordinate (weight_from n f) j ≡ f j
coordinate-weight_from n f j low high =
    get_or-map-range_with_len f 1 n (j - 1) j (pos 0) (omega arith) (omega arith)

-- a list with these coordinates is the weight
pub weight_by_coordinates :
    (n : ℕ) (f : ℕ → ℤ) (w : List ℤ) → length w ≡ n
    → ((j : ℕ) → 1 ≤ j → j ≤ n → coordinate w j ≡ f j) → w ≡ weight_from n f
weight_by_coordinates n f w size each =
    ext_get_or (pos 0) w (weight_from n f) (size ∙ sym (length-weight_from n f)) (λ i below.
    let low : 1 ≤ i + 1 = omega arith in
    let high : i + 1 ≤ n = omega arith in
    let place : i + 1 - 1 ≡ i = omega arith in
    let left : coordinate w (i + 1) ≡ f (i + 1) = each (i + 1) low high in
    let right : coordinate (weight_from n f) (i + 1) ≡ f (i + 1) = coordinate-weight_from n f (i + 1) low high in
    rw place at (left ∙ sym right))

pub zeros_padded : (n : ℕ) → n ≤ 9 → IsPadded (pos 0) 9 n (replicate 9 (pos 0))
zeros_padded n few = record { fits = few; whole = refl; rest = drop-replicate n 9 (pos 0) }

pub zeros_are : (n : ℕ) → n ≤ 9 → take n (replicate 9 (pos 0)) ≡ weight_from n (λ j. pos 0)
zeros_are n few =
    let cut : take n (replicate 9 (pos 0)) ≡ replicate n (pos 0) = take-replicate n 9 (pos 0) few in
    cut ∙ weight_by_coordinates n (λ j. pos 0) (replicate n (pos 0)) (length-replicate n (pos 0)) (λ j low high.
    get_or-replicate n (j - 1) (pos 0) (pos 0) (omega arith))

-- a weight has at most nine coordinates
pub coordinates_few : (t : CartanType) → IsCartan t → coordinates t ≤ 9
coordinates_few t p = few t.kind t.rank p.high
  where
    few : (k : Kind) (r : ℕ) → r ≤ 8 → coordinates_of k r ≤ 9
    few A r high = omega arith
    few B r high = omega arith
    few C r high = omega arith
    few D r high = omega arith

-- a weight of n coordinates, of which the first m are these
pub record IsFilled (n : ℕ) (f : ℕ → ℤ) (m : ℕ) (w : List ℤ) : Type 0 where
  pub size : length w ≡ n
  pub at : (j : ℕ) → 1 ≤ j → j ≤ m → coordinate w j ≡ f j

pub filled_none : (n : ℕ) (f : ℕ → ℤ) (w : List ℤ) → length w ≡ n → IsFilled n f 0 w
filled_none n f w size = record { size = size; at = λ j low high. absurd (omega arith) }

-- one more coordinate is written
pub filled_more :
    (n : ℕ) (f : ℕ → ℤ) (m : ℕ) (w v : List ℤ) (x : ℤ) → IsFilled n f m w → m < n
    → v ≡ slice_set w (m + 1 - 1) x → x ≡ f (m + 1) → IsFilled n f (m + 1) v
filled_more n f m w v x p below is same =
    let place : m + 1 - 1 ≡ m = omega arith in
    let written : v ≡ slice_set w m x = rw place at is in
    record { size = ap length written ∙ length-set w m x ∙ p.size; at = λ j low high. ap (λ u. coordinate u j) written ∙ read j low high }
  where
    read : (j : ℕ) → 1 ≤ j → j ≤ m + 1 → coordinate (slice_set w m x) j ≡ f j
    read j low high =
        let size : length w ≡ n = p.size in
        elim (cases_eq (j - 1) m) as (λ o. coordinate (slice_set w m x) j ≡ f j) [
          | inl last ↦
              let top : m + 1 ≡ j = omega arith in
              get_or-set_at w m (j - 1) x (pos 0) last (omega arith) ∙ same ∙ ap f top
          | inr other ↦ get_or-set_other w m (j - 1) x (pos 0) other ∙ p.at j low (omega arith)
        ]

pub filled_all : (n : ℕ) (f : ℕ → ℤ) (m : ℕ) (w : List ℤ) → IsFilled n f m w → n ≤ m → w ≡ weight_from n f
filled_all n f m w p all = weight_by_coordinates n f w p.size (λ j low high. p.at j low (omega arith))

pub small_at : (w : List ℤ) (j : ℕ) → 1 ≤ j → j ≤ length w → IsSmall w → IsSmallCoordinate (coordinate w j)
small_at w j low high small = small (j - 1) (pos 0) (omega arith)

-- every index of a simple root is the place of a coordinate
pub rank_within : (t : CartanType) → t.rank ≤ coordinates t
rank_within t = within t.kind t.rank
  where
    within : (k : Kind) (r : ℕ) → r ≤ coordinates_of k r
    within A r = omega arith
    within B r = omega arith
    within C r = omega arith
    within D r = omega arith

-- a doubled pairing times a coordinate of a root
pub product_small :
    (x y : ℤ) → (negsuc 1999 ≤ℤ x) × (x ≤ℤ pos 2000) → (negsuc 1 ≤ℤ y) × (y ≤ℤ pos 2)
    → (negsuc 3999 ≤ℤ (x *ℤ y)) × ((x *ℤ y) ≤ℤ pos 4000)
product_small x (pos zero) (a, b) h = (omega (arith, ints, a, b), omega (arith, ints, a, b))
product_small x (pos (suc zero)) (a, b) h = (omega (arith, ints, a, b), omega (arith, ints, a, b))
product_small x (pos (suc (suc zero))) (a, b) h = (omega (arith, ints, a, b), omega (arith, ints, a, b))
product_small x (pos (suc (suc (suc n)))) b (c, d) = absurd (omega (arith, ints, d))
product_small x (negsuc zero) (a, b) h = (omega (arith, ints, a, b), omega (arith, ints, a, b))
product_small x (negsuc (suc zero)) (a, b) h = (omega (arith, ints, a, b), omega (arith, ints, a, b))
product_small x (negsuc (suc (suc n))) b (c, d) = absurd (omega (arith, ints, c))

-- the nine coordinates beyond those of a weight are 0
zero_beyond : (n : ℕ) (xs : List ℤ) (k : ℕ) (d : ℤ) → IsPadded (pos 0) 9 n xs → n ≤ k → k < 9 → slice_index_or xs k d ≡ pos 0
zero_beyond n xs k d p low high =
    let place : n + (k - n) ≡ k = omega arith in
    let there : slice_index_or (drop n xs) (k - n) d ≡ slice_index_or xs k d = get_or-drop n xs (k - n) d ∙ ap (λ i. slice_index_or xs i d) place in
    sym there ∙ ap (λ ys. slice_index_or ys (k - n) d) p.rest ∙ get_or-replicate (9 - n) (k - n) (pos 0) d (omega arith)

pub small_padded : (n : ℕ) (xs w : List ℤ) → IsPadded (pos 0) 9 n xs → take n xs ≡ w → IsSmall w → IsSmall xs
small_padded n xs w p is small k d below =
    elim (cases_lt k n) as (λ o. IsSmallCoordinate (slice_index_or xs k d)) [
      | inl inside ↦
          let there : slice_index_or w k d ≡ slice_index_or xs k d = ap (λ ys. slice_index_or ys k d) (sym is) ∙ get_or-take n xs k d inside in
          subst IsSmallCoordinate there (small k d (omega (arith, ap length is, length-take_padded (pos 0) 9 n xs p)))
      | inr outside ↦
          let zero_there : slice_index_or xs k d ≡ pos 0 = zero_beyond n xs k d p outside (omega (arith, p.whole)) in
          subst IsSmallCoordinate (sym zero_there) (omega (arith, ints), omega (arith, ints))
    ]

-- the nine coordinates of two weights, added place by place
abbrev pub AreSums : List ℤ → List ℤ → List ℤ → Type 0
AreSums xs ys zs = (k : ℕ) → k < 9 → slice_index_or zs k (pos 0) ≡ slice_index_or xs k (pos 0) +ℤ slice_index_or ys k (pos 0)

pub sums_padded :
    (n m : ℕ) (xs ys zs : List ℤ) → m ≡ n → length zs ≡ 9 → IsPadded (pos 0) 9 n xs → IsPadded (pos 0) 9 m ys → AreSums xs ys zs → IsPadded (pos 0) 9 n zs
sums_padded n m xs ys zs same whole p q sums = record {
  fits = p.fits;
  whole = whole;
  rest =
      ext_get_or (pos 0) (drop n zs) (replicate (9 - n) (pos 0)) (omega (arith, length-drop n zs, length-replicate (9 - n) (pos 0), whole)) (λ i below.
      let inside : n + i < 9 = omega (arith, length-drop n zs, whole) in
      let left : slice_index_or xs (n + i) (pos 0) ≡ pos 0 = zero_beyond n xs (n + i) (pos 0) p (omega arith) inside in
      let right : slice_index_or ys (n + i) (pos 0) ≡ pos 0 = zero_beyond m ys (n + i) (pos 0) q (omega arith) inside in
      let sum : slice_index_or zs (n + i) (pos 0) ≡ pos 0 = rw (left, right) at (sums (n + i) inside) in
      get_or-drop n zs i (pos 0) ∙ sum ∙ sym (get_or-replicate (9 - n) i (pos 0) (pos 0) (omega arith)));
}

pub sums_are :
    (n m : ℕ) (xs ys zs v w : List ℤ) → m ≡ n → length zs ≡ 9 → IsPadded (pos 0) 9 n xs → take n xs ≡ v → take m ys ≡ w
    → AreSums xs ys zs → take n zs ≡ sum_of v w
sums_are n m xs ys zs v w same whole p left_is right_is sums =
    let size : length v ≡ n = ap length (sym left_is) ∙ length-take_padded (pos 0) 9 n xs p in
    rw size (weight_by_coordinates n (λ j. coordinate v j +ℤ coordinate w j) (take n zs) (omega (arith, length-take n zs, whole, p.fits)) (λ j low high.
    let inside : j - 1 < n = omega arith in
    let left : slice_index_or xs (j - 1) (pos 0) ≡ coordinate v j = sym (get_or-take n xs (j - 1) (pos 0) inside) ∙ ap (λ u. slice_index_or u (j - 1) (pos 0)) left_is in
    let right : slice_index_or ys (j - 1) (pos 0) ≡ coordinate w j = sym (get_or-take m ys (j - 1) (pos 0) (omega arith)) ∙ ap (λ u. slice_index_or u (j - 1) (pos 0)) right_is in
    get_or-take n zs (j - 1) (pos 0) inside ∙ (rw (left, right) at (sums (j - 1) (omega (arith, p.fits))))))

-- Bounds on the coordinates of weights.
use Rattle.std.proofs.Common.{ℕ, Bool, true, false, ◌≡◌, ◌+◌, ◌-◌, ◌≤◌, ◌<◌, ◌==◌, nat_lt, if◌then◌else◌, List, get_or, All, ℤ, pos, negsuc, ◌+ℤ◌, ◌≤ℤ◌, ap, ◌∙◌, arith}
use Rattle.std.specs.List.{range_with_len}
use Rattle.std.proofs.lemmas.Int.{ints}
use Rattle.std.proofs.lemmas.List.{get_or-map, length-map}
use Rattle.std.proofs.lemmas.List.FromFn.{get_or-range_with_len}
use Rattle.crystal_cartan.specs.Types.{CartanType, coordinates}
use Rattle.crystal_cartan.specs.Weights.{weight_from, zero_weight, unit_at, step_root_at, last_root_at, root_at, root, IsSmall, IsWithin}
use Rattle.crystal_cartan.specs.declared.types.Kind.{Kind}
use Rattle.crystal_cartan.specs.declared.types.Kind.TheVariants.{A, B, C, D}
use Rattle.crystal_cartan.proofs.Coordinates.{length-weight_from}

pub All-weight_from : (P : ℤ → Type 0) (n : ℕ) (f : ℕ → ℤ) → ((j : ℕ) → 1 ≤ j → j ≤ n → P (f j)) → All P (weight_from n f)
All-weight_from P n f each = λ k d lt.
    let within : k < n = omega (arith, length-weight_from n f) in
    let at : get_or (weight_from n f) k d ≡ f (1 + k) =
    get_or-map f (range_with_len 1 n) k 0 d (omega (arith, length-map (range_with_len 1 n) f)) ∙ ap f (get_or-range_with_len 1 n k 0 within) in
    rw at (each (1 + k) (omega arith) (omega arith))

pub zero_within : (t : CartanType) → All (IsWithin 0) (zero_weight t)
zero_within t = All-weight_from (IsWithin 0) (coordinates t) (λ j. pos 0) (λ j low high. (omega (arith, ints), omega (arith, ints)))

pub small_from_within : (n : ℕ) (w : List ℤ) → n ≤ 1000 → All (IsWithin n) w → IsSmall w
small_from_within n w few all = λ k d lt.
    let x : IsWithin n (get_or w k d) = all k d lt in
    (omega (arith, ints, x.0), omega (arith, ints, x.1))

unit_bound : (i j : ℕ) → (pos 0 ≤ℤ unit_at i j) × (unit_at i j ≤ℤ pos 1)
unit_bound i j = bound (i == j)
  where
    bound : (same : Bool) → (pos 0 ≤ℤ (if same then pos 1 else pos 0)) × ((if same then pos 1 else pos 0) ≤ℤ pos 1)
    bound true = (omega (arith, ints), omega (arith, ints))
    bound false = (omega (arith, ints), omega (arith, ints))

step_bound : (i j : ℕ) → (negsuc 1 ≤ℤ step_root_at i j) × (step_root_at i j ≤ℤ pos 2)
step_bound i j =
    let here = unit_bound i j in
    let next = unit_bound (i + 1) j in
    (omega (arith, ints, here, next), omega (arith, ints, here, next))

last_bound : (k : Kind) (r j : ℕ) → (negsuc 1 ≤ℤ last_root_at k r j) × (last_root_at k r j ≤ℤ pos 2)
last_bound A r j = step_bound r j
last_bound B r j = (omega (arith, ints, unit_bound r j), omega (arith, ints, unit_bound r j))
last_bound C r j = (omega (arith, ints, unit_bound r j), omega (arith, ints, unit_bound r j))
last_bound D r j = (omega (arith, ints, unit_bound (r - 1) j, unit_bound r j), omega (arith, ints, unit_bound (r - 1) j, unit_bound r j))

root_at_bound : (t : CartanType) (i j : ℕ) → (negsuc 1 ≤ℤ root_at t i j) × (root_at t i j ≤ℤ pos 2)
root_at_bound t i j = bound (nat_lt i t.rank)
  where
    at : Bool → ℤ
    at inner = if inner then step_root_at i j else last_root_at t.kind t.rank j

    bound : (inner : Bool) → (negsuc 1 ≤ℤ at inner) × (at inner ≤ℤ pos 2)
    bound true = step_bound i j
    bound false = last_bound t.kind t.rank j

pub root_within : (t : CartanType) (i : ℕ) → All (IsWithin 4) (root t i)
unfolding root
root_within t i = All-weight_from (IsWithin 4) (coordinates t) (λ j. root_at t i j +ℤ root_at t i j) (λ j low high.
    let here = root_at_bound t i j in
    (omega (arith, ints, here), omega (arith, ints, here)))

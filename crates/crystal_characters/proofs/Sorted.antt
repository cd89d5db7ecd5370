-- Tallies of a falling list of weights, front by front.
use Rattle.std.proofs.Common.{◌≡◌, ◌∙◌, sym, refl, ap, ap₂, ℕ, ◌+◌, ◌≤◌, ◌<◌, Bool, true, false, List, [], length, get_or, take, ℤ, All, Contains, arith}
use Rattle.std.specs.Ordering.{is_lt}
use Rattle.std.specs.declared.cmp.Ordering.TheVariants.{Greater}
use Rattle.std.specs.Cmp.{IsStrictWeakOrder}
use Rattle.std.specs.List.Sorted.{IsSortedBy, IsPermutation}
use Rattle.std.proofs.lemmas.List.{get_or_default, get_or-map, length-map, length-take-le, get_or-take, take_all}
use Rattle.std.proofs.lemmas.List.Sorted.{ranks_by, IsStrictWeakOrder-flip, sorted_far}
use Rattle.std.proofs.lemmas.List.Sums.{fold_more, count_by-le-length}
use Rattle.crystal_characters.specs.declared.tallies.Multiplicity.{Multiplicity}
use Rattle.crystal_characters.specs.Characters.{weight_order, is_same_weight, counted, tally, IsFalling}
use Rattle.crystal_characters.proofs.WeightOrder.{order_total, below_from_above}
use Rattle.crystal_characters.proofs.Tallying.{tally_falls, tally_times, tally_lists, tally_permuted, told_at, falling_at, weights_in}

-- the later of two weights is above the first: the order by which the weights are sorted
abbrev pub comes_first : List ℤ → List ℤ → Bool
comes_first v w = is_lt (weight_order w v)

pub first_is_order : IsStrictWeakOrder comes_first
first_is_order = IsStrictWeakOrder-flip (λ v w. is_lt (weight_order v w)) (ranks_by order_total (λ w. w))

abbrev pub front : ℕ → List (List ℤ) → List Multiplicity
front n ws = tally (take n ws)

pub front_none : (ws : List (List ℤ)) → tally [] ≡ []
unfolding tally
front_none ws = refl

pub front_more : (ws : List (List ℤ)) (n : ℕ) (w : List ℤ) → n < length ws → w ≡ get_or ws n w → counted (front n ws) w ≡ front (n + 1) ws
unfolding tally
front_more ws n w lt is = ap (counted (front n ws)) is ∙ sym (fold_more counted [] ws n w lt)

pub front_falls : (ws : List (List ℤ)) (n : ℕ) → IsFalling (front n ws)
front_falls ws n = falling_at (front n ws) (tally_falls (take n ws))

pub front_few : (ws : List (List ℤ)) (n : ℕ) → n ≤ length ws → All (λ m. m.times ≤ n) (front n ws)
front_few ws n le k d lt =
    let told = told_at (front n ws) (tally_falls (take n ws)) k d lt in
    omega (
      arith,
      told,
      tally_times (get_or (front n ws) k d).weight (take n ws),
      count_by-le-length (λ u. is_same_weight u (get_or (front n ws) k d).weight) (take n ws),
      length-take-le n ws,
    )

-- no weight of a front is below the next one
pub front_least : (ws : List (List ℤ)) (n : ℕ) (w : List ℤ) → IsSortedBy comes_first ws → n < length ws → w ≡ get_or ws n w
    → All (λ m. weight_order w m.weight ≡ Greater → ⊥) (front n ws)
front_least ws n w sorted below is k d lt above =
    let size : length (take n ws) ≡ n = length-take-le n ws (omega arith) in
    let listed : Contains (weights_in (front n ws)) v =
    (k, omega (arith, length-map (front n ws) (λ m. m.weight)), get_or-map (λ m. m.weight) (front n ws) k d v lt) in
    let there = tally_lists (take n ws) v listed in
    let before : there.0 < n = omega (arith, there.1, size) in
    let at : get_or ws there.0 v ≡ v = sym (get_or-take n ws there.0 v before) ∙ there.2 in
    let next : get_or ws n v ≡ w = get_or_default ws n v w below ∙ sym is in
    let apart = sorted_far comes_first first_is_order ws sorted there.0 n v (omega arith) below in
    let not_under : is_lt (weight_order v w) ≡ false = ap₂ (λ x y. is_lt (weight_order x y)) (sym at) (sym next) ∙ apart in
    let under : is_lt (weight_order v w) ≡ true = ap is_lt (below_from_above w v above) in
    cc
  where
    v : List ℤ
    v = (get_or (front n ws) k d).weight

pub front_all : (xs ws : List (List ℤ)) (n : ℕ) → IsPermutation xs ws → length ws ≤ n → front n ws ≡ tally xs
front_all xs ws n moved all = ap tally (take_all n ws all) ∙ tally_permuted xs ws moved

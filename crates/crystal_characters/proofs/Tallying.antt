-- Tallies: they fall, list the weights that occur, and tell how often each does; nothing else does.
use Rattle.std.proofs.Common.{◌≡◌, ◌∙◌, sym, refl, ap, ap₂, subst, ℕ, zero, suc, ◌+◌, zero-add, ◌≤◌, ◌⊎◌, inl, inr, Bool, true, false, if◌then◌else◌, List, [], ◌∷◌, map, get_or, fold, ℤ, Contains, All, arith}
use Rattle.std.specs.List.{count_by}
use Rattle.std.specs.List.Sorted.{IsPermutation}
use Rattle.std.specs.Ordering.{match_ordering}
use Rattle.std.specs.declared.cmp.Ordering.TheVariants.{Less, Equal, Greater}
use Rattle.std.proofs.lemmas.List.Sums.{sum_by-cons}
use Rattle.std.proofs.lemmas.List.Sorted.{sum_by-IsPermutation}
use Rattle.crystal_characters.specs.declared.tallies.Multiplicity.{Multiplicity}
use Rattle.crystal_characters.specs.Characters.{weight_order, is_same_weight, once, once_more, counted, tally, IsFalling}
use Rattle.list_facts.proofs.Lists.{in_cons, in_first, in_rest}
use Rattle.crystal_characters.proofs.WeightOrder.{equal_weights, same_itself, above_from_below, below_from_above, above_above, above_differs, below_differs}

-- the weight is above every listed one
abbrev pub IsOver : List ℤ → List Multiplicity → Type 0
IsOver v [] = Unit {0}
IsOver v (m ∷ ms) = (weight_order v m.weight ≡ Greater) × IsOver v ms

-- falling, and no multiplicity is 0
abbrev pub Falls : List Multiplicity → Type 0
Falls [] = Unit {0}
Falls (m ∷ ms) = IsOver m.weight ms × (1 ≤ m.times) × Falls ms

-- how often a list says that the weight occurs
abbrev pub times_told : List ℤ → Multiplicity → ℕ
times_told v m = if is_same_weight m.weight v then m.times else 0

abbrev pub times_in : List ℤ → List Multiplicity → ℕ
times_in v [] = 0
times_in v (m ∷ ms) = times_told v m + times_in v ms

over_over : (v w : List ℤ) (ms : List Multiplicity) → weight_order v w ≡ Greater → IsOver w ms → IsOver v ms
over_over v w [] is over = tt
over_over v w (m ∷ ms) is over = (above_above v w m.weight is over.0, over_over v w ms is over.1)

over_counted : (v w : List ℤ) (ms : List Multiplicity) → weight_order v w ≡ Greater → IsOver v ms → IsOver v (counted ms w)
over_counted v w [] is over = (is, tt)
over_counted v w (m ∷ ms) is over =
    elim (weight_order w m.weight) as (λ o. IsOver v (match_ordering o (m ∷ counted ms w) (once_more m ∷ ms) (once w ∷ m ∷ ms))) [
      | Less ↦ (over.0, over_counted v w ms is over.1)
      | Equal ↦ over
      | Greater ↦ (is, over)
    ]

falls_counted : (ms : List Multiplicity) (w : List ℤ) → Falls ms → Falls (counted ms w)
falls_counted [] w falls = (tt, omega arith, tt)
falls_counted (m ∷ ms) w falls =
    elim (weight_order w m.weight) as (λ o. weight_order w m.weight ≡ o → Falls (match_ordering o (m ∷ counted ms w) (once_more m ∷ ms) (once w ∷ m ∷ ms))) [
      | Less ↦ λ is. (over_counted m.weight w ms (above_from_below w m.weight is) falls.0, falls.1, falls_counted ms w falls.2)
      | Equal ↦ λ is. (falls.0, omega arith, falls.2)
      | Greater ↦ λ is. ((is, over_over w m.weight ms is falls.0), omega arith, falls)
    ] refl

-- one more occurrence is told, of that weight alone
one_more : (b : Bool) (n t : ℕ) → (if b then n + 1 else 0) + t ≡ ((if b then n else 0) + t) + (if b then 1 else 0)
one_more true n t = omega arith
one_more false n t = omega arith

times_counted : (v w : List ℤ) (ms : List Multiplicity) → times_in v (counted ms w) ≡ times_in v ms + (if is_same_weight w v then 1 else 0)
times_counted v w [] = omega arith
times_counted v w (m ∷ ms) =
    elim (weight_order w m.weight) as (λ o. weight_order w m.weight ≡ o
    → times_in v (match_ordering o (m ∷ counted ms w) (once_more m ∷ ms) (once w ∷ m ∷ ms)) ≡ (times_told v m + times_in v ms) + (if is_same_weight w v then 1 else 0)) [
      | Less ↦ λ is. omega (arith, times_counted v w ms)
      | Equal ↦ λ is.
          let same : is_same_weight w v ≡ is_same_weight m.weight v = ap (λ u. is_same_weight u v) (equal_weights w m.weight is) in
          rw same (one_more (is_same_weight m.weight v) m.times (times_in v ms))
      | Greater ↦ λ is. omega arith
    ] refl

times_folded : (v : List ℤ) (ms : List Multiplicity) (ws : List (List ℤ)) → times_in v (fold counted ms ws) ≡ times_in v ms + count_by (λ u. is_same_weight u v) ws
times_folded v ms [] = omega arith
times_folded v ms (w ∷ ws) =
    omega (arith, times_folded v (counted ms w) ws, times_counted v w ms, sum_by-cons (λ u. if is_same_weight u v then 1 else 0) w ws)

falls_folded : (ms : List Multiplicity) (ws : List (List ℤ)) → Falls ms → Falls (fold counted ms ws)
falls_folded ms [] falls = falls
falls_folded ms (w ∷ ws) falls = falls_folded (counted ms w) ws (falls_counted ms w falls)

pub tally_falls : (ws : List (List ℤ)) → Falls (tally ws)
unfolding tally
tally_falls ws = falls_folded [] ws tt

pub tally_times : (v : List ℤ) (ws : List (List ℤ)) → times_in v (tally ws) ≡ count_by (λ u. is_same_weight u v) ws
unfolding tally
tally_times v ws = omega (arith, times_folded v [] ws)

-- a weight above every listed one is not listed
none_under : (v : List ℤ) (ms : List Multiplicity) → IsOver v ms → times_in v ms ≡ 0
none_under v [] over = refl
none_under v (m ∷ ms) over =
    let apart : is_same_weight m.weight v ≡ false = below_differs m.weight v (below_from_above v m.weight over.0) in
    rw apart (zero-add (times_in v ms) ∙ none_under v ms over.1)

head_times : (m : Multiplicity) (ms : List Multiplicity) → Falls (m ∷ ms) → times_in m.weight (m ∷ ms) ≡ m.times
head_times m ms falls = let same = same_itself m.weight in rw same (omega (arith, none_under m.weight ms falls.0))

-- a falling list is told by its multiplicities
pub unique : (ms ns : List Multiplicity) → Falls ms → Falls ns → ((v : List ℤ) → times_in v ms ≡ times_in v ns) → ms ≡ ns
unique [] [] left right same = refl
unique [] (n ∷ ns) left right same = absurd (omega (arith, same n.weight, head_times n ns right, right.1))
unique (m ∷ ms) [] left right same = absurd (omega (arith, same m.weight, head_times m ms left, left.1))
unique (m ∷ ms) (n ∷ ns) left right same =
    elim (weight_order m.weight n.weight) as (λ o. weight_order m.weight n.weight ≡ o → m ∷ ms ≡ n ∷ ns) [
      | Less ↦ λ is.
          let over : IsOver n.weight (m ∷ ms) = (above_from_below m.weight n.weight is, over_over n.weight m.weight ms (above_from_below m.weight n.weight is) left.0) in
          absurd (omega (arith, same n.weight, head_times n ns right, right.1, none_under n.weight (m ∷ ms) over))
      | Equal ↦ λ is.
          let weight : m.weight ≡ n.weight = equal_weights m.weight n.weight is in
          let here : times_in m.weight (n ∷ ns) ≡ n.times = ap (λ v. times_in v (n ∷ ns)) weight ∙ head_times n ns right in
          let times : m.times ≡ n.times = omega (arith, same m.weight, head_times m ms left, here) in
          let first : m ≡ n = ap₂ made weight times in
          ap₂ (λ x xs. x ∷ xs) first (unique ms ns left.2 right.2 (λ v.
          let told : times_told v m ≡ times_told v n = ap (times_told v) first in
          omega (arith, same v, told)))
      | Greater ↦ λ is.
          let over : IsOver m.weight (n ∷ ns) = (is, over_over m.weight n.weight ns is right.0) in
          absurd (omega (arith, same m.weight, head_times m ms left, left.1, none_under m.weight (n ∷ ns) over))
    ] refl
  where
    made : List ℤ → ℕ → Multiplicity
    made w n = record { weight = w; times = n }

-- a tally does not depend on the order of the list
pub tally_permuted : (xs ys : List (List ℤ)) → IsPermutation xs ys → tally ys ≡ tally xs
tally_permuted xs ys moved =
    unique (tally ys) (tally xs) (tally_falls ys) (tally_falls xs) (λ v.
    tally_times v ys ∙ sum_by-IsPermutation (λ u. if is_same_weight u v then 1 else 0) xs ys moved ∙ sym (tally_times v xs))

-- falling, by places
over_at : (v : List ℤ) (ms : List Multiplicity) → IsOver v ms → All (λ m. weight_order v m.weight ≡ Greater) ms
over_at v [] over k d lt = absurd (omega arith)
over_at v (m ∷ ms) over zero d lt = over.0
over_at v (m ∷ ms) over (suc k) d lt = over_at v ms over.1 k d (omega arith)

pub falling_at : (ms : List Multiplicity) → Falls ms → IsFalling ms
falling_at [] falls i j d less lt = absurd (omega arith)
falling_at (m ∷ ms) falls zero zero d less lt = absurd (omega arith)
falling_at (m ∷ ms) falls zero (suc j) d less lt = over_at m.weight ms falls.0 j d (omega arith)
falling_at (m ∷ ms) falls (suc i) zero d less lt = absurd (omega arith)
falling_at (m ∷ ms) falls (suc i) (suc j) d less lt = falling_at ms falls.2 i j d (omega arith) (omega arith)

pub told_at : (ms : List Multiplicity) → Falls ms → All (λ m. times_in m.weight ms ≡ m.times) ms
told_at [] falls k d lt = absurd (omega arith)
told_at (m ∷ ms) falls zero d lt = head_times m ms falls
told_at (m ∷ ms) falls (suc k) d lt =
    let other : is_same_weight m.weight (get_or ms k d).weight ≡ false =
    above_differs m.weight (get_or ms k d).weight (over_at m.weight ms falls.0 k d (omega arith)) in
    rw other (zero-add (times_in (get_or ms k d).weight ms) ∙ told_at ms falls.2 k d (omega arith))

-- the weights that are listed
abbrev pub weights_in : List Multiplicity → List (List ℤ)
weights_in ms = map (λ m. m.weight) ms

listed_counted : (ms : List Multiplicity) (w v : List ℤ) → Contains (weights_in (counted ms w)) v → (w ≡ v) ⊎ Contains (weights_in ms) v
listed_counted [] w v there = in_cons w [] v there
listed_counted (m ∷ ms) w v there =
    elim (weight_order w m.weight) as (λ o. Contains (weights_in (match_ordering o (m ∷ counted ms w) (once_more m ∷ ms) (once w ∷ m ∷ ms))) v
    → (w ≡ v) ⊎ Contains (weights_in (m ∷ ms)) v) [
      | Less ↦ λ h. later (in_cons m.weight (weights_in (counted ms w)) v h) (λ k. listed_counted ms w v k)
      | Equal ↦ λ h. inr h
      | Greater ↦ λ h. in_cons w (m.weight ∷ weights_in ms) v h
    ] there
  where
    later : (m.weight ≡ v) ⊎ Contains (weights_in (counted ms w)) v → (Contains (weights_in (counted ms w)) v → (w ≡ v) ⊎ Contains (weights_in ms) v)
        → (w ≡ v) ⊎ Contains (m.weight ∷ weights_in ms) v
    later (inl same) rest = inr (subst (Contains (m.weight ∷ weights_in ms)) same (in_first m.weight (weights_in ms)))
    later (inr h) rest = behind (rest h)
      where
        behind : (w ≡ v) ⊎ Contains (weights_in ms) v → (w ≡ v) ⊎ Contains (m.weight ∷ weights_in ms) v
        behind (inl same) = inl same
        behind (inr k) = inr (in_rest m.weight (weights_in ms) v k)

counted_lists_old : (ms : List Multiplicity) (w v : List ℤ) → Contains (weights_in ms) v → Contains (weights_in (counted ms w)) v
counted_lists_old [] w v (k, lt, at) = absurd (omega arith)
counted_lists_old (m ∷ ms) w v there =
    elim (weight_order w m.weight) as (λ o. Contains (weights_in (match_ordering o (m ∷ counted ms w) (once_more m ∷ ms) (once w ∷ m ∷ ms))) v) [
      | Less ↦ either (in_cons m.weight (weights_in ms) v there) (λ k. counted_lists_old ms w v k)
      | Equal ↦ there
      | Greater ↦ in_rest w (m.weight ∷ weights_in ms) v there
    ]
  where
    either : (m.weight ≡ v) ⊎ Contains (weights_in ms) v → (Contains (weights_in ms) v → Contains (weights_in (counted ms w)) v)
        → Contains (m.weight ∷ weights_in (counted ms w)) v
    either (inl same) rest = subst (Contains (m.weight ∷ weights_in (counted ms w))) same (in_first m.weight (weights_in (counted ms w)))
    either (inr h) rest = in_rest m.weight (weights_in (counted ms w)) v (rest h)

counted_lists_new : (ms : List Multiplicity) (w : List ℤ) → Contains (weights_in (counted ms w)) w
counted_lists_new [] w = in_first w []
counted_lists_new (m ∷ ms) w =
    elim (weight_order w m.weight) as (λ o. weight_order w m.weight ≡ o → Contains (weights_in (match_ordering o (m ∷ counted ms w) (once_more m ∷ ms) (once w ∷ m ∷ ms))) w) [
      | Less ↦ λ is. in_rest m.weight (weights_in (counted ms w)) w (counted_lists_new ms w)
      | Equal ↦ λ is. subst (Contains (m.weight ∷ weights_in ms)) (sym (equal_weights w m.weight is)) (in_first m.weight (weights_in ms))
      | Greater ↦ λ is. in_first w (m.weight ∷ weights_in ms)
    ] refl

folded_lists : (ms : List Multiplicity) (ws : List (List ℤ)) (v : List ℤ) → Contains (weights_in (fold counted ms ws)) v → Contains (weights_in ms) v ⊎ Contains ws v
folded_lists ms [] v there = inl there
folded_lists ms (w ∷ ws) v there = first (folded_lists (counted ms w) ws v there)
  where
    second : (w ≡ v) ⊎ Contains (weights_in ms) v → Contains (weights_in ms) v ⊎ Contains (w ∷ ws) v
    second (inl same) = inr (subst (Contains (w ∷ ws)) same (in_first w ws))
    second (inr h) = inl h

    first : Contains (weights_in (counted ms w)) v ⊎ Contains ws v → Contains (weights_in ms) v ⊎ Contains (w ∷ ws) v
    first (inl h) = second (listed_counted ms w v h)
    first (inr h) = inr (in_rest w ws v h)

lists_folded : (ms : List Multiplicity) (ws : List (List ℤ)) (v : List ℤ) → Contains (weights_in ms) v ⊎ Contains ws v → Contains (weights_in (fold counted ms ws)) v
lists_folded ms [] v (inl h) = h
lists_folded ms [] v (inr (k, lt, at)) = absurd (omega arith)
lists_folded ms (w ∷ ws) v (inl h) = lists_folded (counted ms w) ws v (inl (counted_lists_old ms w v h))
lists_folded ms (w ∷ ws) v (inr h) = lists_folded (counted ms w) ws v (onward (in_cons w ws v h))
  where
    onward : (w ≡ v) ⊎ Contains ws v → Contains (weights_in (counted ms w)) v ⊎ Contains ws v
    onward (inl same) = inl (subst (Contains (weights_in (counted ms w))) same (counted_lists_new ms w))
    onward (inr later) = inr later

pub tally_lists : (ws : List (List ℤ)) (v : List ℤ) → Contains (weights_in (tally ws)) v → Contains ws v
unfolding tally
tally_lists ws v there = by (folded_lists [] ws v there)
  where
    by : Contains (weights_in []) v ⊎ Contains ws v → Contains ws v
    by (inl (k, lt, at)) = absurd (omega arith)
    by (inr h) = h

pub lists_tally : (ws : List (List ℤ)) (v : List ℤ) → Contains ws v → Contains (weights_in (tally ws)) v
unfolding tally
lists_tally ws v there = lists_folded [] ws v (inr there)

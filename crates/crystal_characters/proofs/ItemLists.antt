-- The items of the first vertices.
use Rattle.std.proofs.Common.{◌≡◌, ◌∙◌, refl, sym, ap, ℕ, zero, suc, ◌+◌, ◌≤◌, ◌<◌, nat_eq, eqb-true, Bool, true, false, ◌||◌, if◌then◌else◌, List, [], ◌∷◌, ◌++◌, length, get_or, set, take, drop, append_assoc, append-nil, zero-add, inl, inr, arith}
use Rattle.std.specs.List.{IsDistinct, list_any, range_with_len}
use Rattle.std.proofs.lemmas.Bool.{cases_eq, eq-eqb, ne_eqb}
use Rattle.std.proofs.lemmas.Cmp.{nat_eq_equiv}
use Rattle.std.proofs.lemmas.Grind.{get_or-set_at}
use Rattle.std.proofs.lemmas.List.{map-id, get_or-set_other, get_or_default, get_or-take, length-take-le, take_all, take-append-drop}
use Rattle.std.proofs.Math.Seq.{take-nil}
use Rattle.std.proofs.lemmas.List.Folds.{list_any-append, list_any_more}
use Rattle.std.proofs.lemmas.List.FromFn.{take-map-range_with_len, map-range_with_len_more, length-range_with_len, get_or-range_with_len}
use Rattle.std.proofs.lemmas.Map.Keys.{apart_from_distinct, IsDistinct-from_apart}
use Rattle.std.proofs.lemmas.Map.Views.{Contains-from_any, list_any-from_Contains}
use Rattle.canonical_graph.specs.Graphs.{FinishedType}
use Rattle.crystal_characters.specs.declared.items.Item.{Item}
use Rattle.crystal_characters.specs.Items.{item_at, first_items, items_of, items_for}

pub items_front : (f : FinishedType) (n : ℕ) (old new : List Item) → n ≤ length f.codes → new ≡ old ++ first_items f n → new ≡ old ++ take n (items_of f)
items_front f n old new le is = is ∙ ap (λ xs. old ++ xs) (sym (take-map-range_with_len (item_at f) 0 (length f.codes) n le))

pub items_more : (f : FinishedType) (n : ℕ) (x : Item) (old mid new : List Item) → x ≡ item_at f n → mid ≡ old ++ first_items f n → new ≡ mid ++ x ∷ []
    → new ≡ old ++ first_items f (n + 1)
items_more f n x old mid new is so_far added =
    added ∙ ap (λ xs. xs ++ x ∷ []) so_far ∙ ap (λ y. (old ++ first_items f n) ++ y ∷ []) is ∙ append_assoc old (first_items f n) (item_at f n ∷ [])
    ∙ ap (λ xs. old ++ xs) (sym (map-range_with_len_more (item_at f) 0 n n (omega arith)))

-- a place is not among those before it
not_before : (places : List ℕ) (j p : ℕ) → IsDistinct nat_eq places → j < length places → p ≡ get_or places j 0 → list_any (nat_eq p) (take j places) ≡ false
not_before places j p distinct lt is = by (list_any (nat_eq p) (take j places)) refl
  where
    by : (b : Bool) → list_any (nat_eq p) (take j places) ≡ b → b ≡ false
    by false told = refl
    by true told =
        let there = Contains-from_any eqb-true p (take j places) told in
        let size : length (take j places) ≡ j = length-take-le j places (omega arith) in
        let before : there.0 < j = omega (arith, there.1, size) in
        let same : get_or places there.0 0 ≡ p = sym (get_or-take j places there.0 0 before) ∙ get_or_default (take j places) there.0 0 p there.1 ∙ there.2 in
        let apart = apart_from_distinct nat_eq places there.0 j 0 distinct before lt in
        let equal = eq-eqb (get_or places there.0 0) (get_or places j 0) (same ∙ is) in
        cc

-- what is changed at one place keeps what it keeps there
pub kept_at : {X Y : Type 0} (g : X → Y) (nows : List X) (p : ℕ) (x y : X) → p < length nows → x ≡ get_or nows p x → g y ≡ g x
    → (k : ℕ) (d : X) → k < length nows → g (get_or (set nows p y) k d) ≡ g (get_or nows k d)
kept_at g nows p x y below read keeps k d lt =
    elim (cases_eq k p) [
      | inl same ↦
          let at : x ≡ get_or nows k d = read ∙ ap (λ i. get_or nows i x) (sym same) ∙ get_or_default nows k x d lt in
          ap g (get_or-set_at nows p k y d same below) ∙ keeps ∙ ap g at
      | inr other ↦ ap g (get_or-set_other nows p k y d other)
    ]

-- one more of the chosen objects is fed
pub chosen_more : {X : Type 0} (olds nows : List X) (fed : X → List Item) (items : List Item) (places : List ℕ) (j p : ℕ) (x y : X) → IsDistinct nat_eq places
    → j < length places → p ≡ get_or places j 0 → length nows ≡ length olds → p < length nows → x ≡ get_or nows p x
    → ((k : ℕ) (d : X) → k < length olds → fed (get_or nows k d) ≡ fed (get_or olds k d) ++ items_for (take j places) k items)
    → fed y ≡ fed x ++ items
    → (k : ℕ) (d : X) → k < length olds → fed (get_or (set nows p y) k d) ≡ fed (get_or olds k d) ++ items_for (take (j + 1) places) k items
chosen_more olds nows fed items places j p x y distinct within is size below read so_far added k d lt =
    elim (cases_eq k p) [
      | inl same ↦
          let at : x ≡ get_or nows k d = read ∙ ap (λ i. get_or nows i x) (sym same) ∙ get_or_default nows k x d (omega arith) in
          let none : list_any (nat_eq k) (take j places) ≡ false = ap (λ i. list_any (nat_eq i) (take j places)) same ∙ not_before places j p distinct within is in
          let own : nat_eq k (get_or places j 0) ≡ true = eq-eqb k (get_or places j 0) (same ∙ is) in
          let now : list_any (nat_eq k) (take (j + 1) places) ≡ true = more k ∙ ap (λ b. b || nat_eq k (get_or places j 0)) none ∙ own in
          let before : fed (get_or nows k d) ≡ fed (get_or olds k d) = so_far k d lt ∙ ap (λ b. fed (get_or olds k d) ++ (if b then items else [])) none ∙ append-nil (fed (get_or olds k d)) in
          ap fed (get_or-set_at nows p k y d same below) ∙ added ∙ ap (λ u. u ++ items) (ap fed at ∙ before)
          ∙ ap (λ b. fed (get_or olds k d) ++ (if b then items else [])) (sym now)
      | inr other ↦
          let own : nat_eq k (get_or places j 0) ≡ false = ne_eqb k (get_or places j 0) (λ same. other (same ∙ sym is)) in
          let now : list_any (nat_eq k) (take (j + 1) places) ≡ list_any (nat_eq k) (take j places) =
          more k ∙ ap (λ b. list_any (nat_eq k) (take j places) || b) own ∙ or_false (list_any (nat_eq k) (take j places)) in
          ap fed (get_or-set_other nows p k y d other) ∙ so_far k d lt ∙ ap (λ b. fed (get_or olds k d) ++ (if b then items else [])) (sym now)
    ]
  where
    more : (k : ℕ) → list_any (nat_eq k) (take (j + 1) places) ≡ (list_any (nat_eq k) (take j places) || nat_eq k (get_or places j 0))
    more k = list_any_more (nat_eq k) places j 0 within

    or_false : (b : Bool) → (b || false) ≡ b
    or_false true = refl
    or_false false = refl

-- those that were fed so far are among the chosen ones
pub part_chosen : (places : List ℕ) (j k : ℕ) (items old new : List Item) → new ≡ old ++ items_for (take j places) k items
    → (n : ℕ) × (new ≡ old ++ take n (items_for places k items))
part_chosen places j k items old new is = by (list_any (nat_eq k) (take j places)) refl is
  where
    front : list_any (nat_eq k) places ≡ (list_any (nat_eq k) (take j places) || list_any (nat_eq k) (drop j places))
    front = ap (list_any (nat_eq k)) (sym (take-append-drop j places)) ∙ list_any-append (nat_eq k) (take j places) (drop j places)

    by : (b : Bool) → list_any (nat_eq k) (take j places) ≡ b → new ≡ old ++ (if b then items else []) → (n : ℕ) × (new ≡ old ++ take n (items_for places k items))
    by true told at =
        let all : list_any (nat_eq k) places ≡ true = front ∙ ap (λ b. b || list_any (nat_eq k) (drop j places)) told in
        (length items, rw all (at ∙ ap (λ xs. old ++ xs) (sym (take_all (length items) items (omega arith)))))
    by false told at = (0, at)

-- all that an object is fed is a part of it
pub part_all : (items old new : List Item) → new ≡ old ++ items → (n : ℕ) × (new ≡ old ++ take n items)
part_all items old new is = (length items, is ∙ ap (λ xs. old ++ xs) (sym (take_all (length items) items (omega arith))))

-- the items of one more vertex, and a part of them
pub chosen_items_more : (f : FinishedType) (places : List ℕ) (k n : ℕ) (x : Item) (old mid new : List Item) → x ≡ item_at f n
    → mid ≡ old ++ items_for places k (first_items f n) → new ≡ mid ++ items_for places k (x ∷ []) → new ≡ old ++ items_for places k (first_items f (n + 1))
chosen_items_more f places k n x old mid new is = by (list_any (nat_eq k) places)
  where
    by : (b : Bool) → mid ≡ old ++ (if b then first_items f n else []) → new ≡ mid ++ (if b then x ∷ [] else [])
        → new ≡ old ++ (if b then first_items f (n + 1) else [])
    by true so_far added = items_more f n x old mid new is so_far added
    by false so_far added = added ∙ append-nil mid ∙ so_far

pub chosen_items_part : (f : FinishedType) (places : List ℕ) (k n m : ℕ) (x : Item) (old mid new : List Item) → x ≡ item_at f n → n < length f.codes
    → mid ≡ old ++ items_for places k (first_items f n) → new ≡ mid ++ take m (items_for places k (x ∷ []))
    → (l : ℕ) × (new ≡ old ++ take l (items_for places k (items_of f)))
chosen_items_part f places k n m x old mid new is lt = by (list_any (nat_eq k) places)
  where
    one : (m : ℕ) → mid ≡ old ++ first_items f n → new ≡ mid ++ take m (x ∷ []) → (l : ℕ) × (new ≡ old ++ take l (items_of f))
    one zero so_far added = (n, items_front f n old new (omega arith) (added ∙ append-nil mid ∙ so_far))
    one (suc m) so_far added =
        let all : new ≡ mid ++ x ∷ [] = added ∙ ap (λ xs. mid ++ x ∷ xs) (take-nil {A = Item} m) in
        (n + 1, items_front f (n + 1) old new (omega arith) (items_more f n x old mid new is so_far all))

    by : (b : Bool) → mid ≡ old ++ (if b then first_items f n else []) → new ≡ mid ++ take m (if b then x ∷ [] else [])
        → (l : ℕ) × (new ≡ old ++ take l (if b then items_of f else []))
    by true so_far added = one m so_far added
    by false so_far added = (0, added ∙ none m ∙ so_far)
      where
        none : (m : ℕ) → mid ++ take m [] ≡ mid
        none m = rw (take-nil {A = Item} m) (append-nil mid)

-- all items
pub chosen_items_all : (f : FinishedType) (places : List ℕ) (k n : ℕ) (old new : List Item) → n ≡ length f.codes
    → new ≡ old ++ items_for places k (first_items f n) → (m : ℕ) × (new ≡ old ++ take m (items_for places k (items_of f)))
chosen_items_all f places k n old new all is = part_all (items_for places k (items_of f)) old new (rw all at is)

-- all places
pub different_places : (n : ℕ) → IsDistinct nat_eq (range_with_len 0 n)
different_places n = IsDistinct-from_apart nat_eq (range_with_len 0 n) (λ i j d low high.
    let within : j < n = omega (arith, high, length-range_with_len 0 n) in
    ne_eqb (get_or (range_with_len 0 n) i d) (get_or (range_with_len 0 n) j d)
    (λ same. omega (arith, same, low, get_or-range_with_len 0 n i d (omega arith), get_or-range_with_len 0 n j d within)))

pub every_chosen : (n k : ℕ) → k < n → list_any (nat_eq k) (range_with_len 0 n) ≡ true
every_chosen n k lt = list_any-from_Contains nat_eq_equiv k (range_with_len 0 n) (k, omega (arith, lt, length-range_with_len 0 n), get_or-range_with_len 0 n k k lt ∙ zero-add k)

pub one_more_place : (n k : ℕ) (old new : List ℕ) → n ≡ k → old ≡ range_with_len 0 n → new ≡ old ++ k ∷ [] → new ≡ range_with_len 0 (n + 1)
one_more_place n k old new same is added =
    added ∙ ap (λ xs. xs ++ k ∷ []) (is ∙ sym (map-id (range_with_len 0 n))) ∙ sym (map-range_with_len_more (λ x. x) 0 n k (zero-add n ∙ same)) ∙ map-id (range_with_len 0 (n + 1))

-- where all are chosen each is fed all items
pub items_for_all : (places : List ℕ) (n k : ℕ) (items : List Item) → places ≡ range_with_len 0 n → k < n → items_for places k items ≡ items
items_for_all places n k items all lt = ap (λ (ps : List ℕ). if list_any (nat_eq k) ps then items else []) all ∙ ap (λ b. if b then items else []) (every_chosen n k lt)

pub all_fed : (places : List ℕ) (n k : ℕ) (items old new : List Item) → places ≡ range_with_len 0 n → k < n → new ≡ old ++ items_for places k items → new ≡ old ++ items
all_fed places n k items old new all lt is = is ∙ ap (λ xs. old ++ xs) (items_for_all places n k items all lt)

pub part_fed : (places : List ℕ) (n k m : ℕ) (items old new : List Item) → places ≡ range_with_len 0 n → k < n → new ≡ old ++ take m (items_for places k items)
    → new ≡ old ++ take m items
part_fed places n k m items old new all lt is = is ∙ ap (λ xs. old ++ take m xs) (items_for_all places n k items all lt)

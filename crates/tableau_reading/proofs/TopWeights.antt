-- The weight of the top word of a shape.
use Rattle.std.proofs.Common.{◌≡◌, ◌∙◌, refl, sym, ap, ap₂, ℕ, zero, suc, ◌+◌, ◌-◌, ◌*◌, ◌≤◌, ◌<◌, ◌==◌, nat_lt, min, Bool, true, false, if◌then◌else◌, List, [], ◌∷◌, ◌++◌, length, map, reverse, get_or, replicate, ℤ, pos, negsuc, ◌+ℤ◌, inl, inr, arith}
use Rattle.std.specs.Prelude.{slice_index}
use Rattle.std.specs.Ordering.{int_eq}
use Rattle.std.specs.List.{range_with_len}
use Rattle.std.proofs.lemmas.Int.{ints}
use Rattle.std.proofs.lemmas.Bool.{cases_eq, cases_lt}
use Rattle.std.proofs.lemmas.Bool.Decides.{nat_tests, Decides-int_eq}
use Rattle.crystal_cartan.specs.Types.{CartanType, IsCartan, coordinates}
use Rattle.crystal_cartan.specs.Weights.{weight_from, coordinate, sum_of}
use Rattle.crystal_cartan.proofs.Coordinates.{length-weight_from, coordinate-weight_from}
use Rattle.vector_crystals.specs.Letters.{barred}
use Rattle.vector_crystals.specs.VectorCrystals.{letter_weight}
use Rattle.tensor_words.specs.declared.spaces.Factor.TheVariants.{Vector}
use Rattle.tensor_words.specs.declared.spaces.Order.{Order}
use Rattle.tensor_words.specs.declared.spaces.Order.TheVariants.{Standard, Kashiwara}
use Rattle.tensor_words.specs.Spaces.{base_weight, weight_along, word_weight}
use Rattle.tableau_reading.specs.Shapes.{is_falling}
use Rattle.tableau_reading.specs.Readings.{Box, height, width, boxes_before, boxes, boxes_read, listed_in, top_word}
use Rattle.tableau_reading.specs.Laws.{TopHasWeight}
use Rattle.tableau_reading.proofs.Boxes.{one_more, none_more, in_row, in_column, row_le}
use Rattle.tableau_reading.proofs.HighestTops.{AreBelow, descending, unbarred, top_more, top_listed, top_below, length-top}
use Rattle.tensor_words.proofs.Reversal.{reverse_first}

-- ---- weights by the numbers of letters

-- 1 where two numbers are equal, else 0
abbrev one_if : ℕ → ℕ → ℕ
one_if a b = if a == b then 1 else 0

one_same : (a b : ℕ) → a ≡ b → one_if a b ≡ 1
one_same a b same = let test : (a == b) ≡ true = grind (arith, nat_tests) in rw test refl

one_other : (a b : ℕ) → (a ≡ b → ⊥) → one_if a b ≡ 0
one_other a b other = let test : (a == b) ≡ false = grind (arith, nat_tests, other) in rw test refl

-- how often the letter j, from 1, is in a word
abbrev pub counted : ℕ → List ℕ → ℕ
counted j [] = 0
counted j (d ∷ ds) = one_if (d + 1) j + counted j ds

from_same : (f g : ℕ → ℤ) (a n : ℕ) → ((j : ℕ) → a ≤ j → j < a + n → f j ≡ g j) → map f (range_with_len a n) ≡ map g (range_with_len a n)
from_same f g a zero same = refl
from_same f g a (suc n) same = ap₂ (λ x xs. x ∷ xs) (same a (omega arith) (omega arith)) (from_same f g (a + 1) n (λ j low high. same j (omega arith) (omega arith)))

-- the j-th coordinate of the weight of the letter d + 1
letter_coordinate : (d j : ℕ) → 1 ≤ j → (if int_eq (pos (d + 1)) (pos j) then pos 2 else if int_eq (pos (d + 1)) (barred j) then negsuc 1 else pos 0) ≡ pos (2 * one_if (d + 1) j)
letter_coordinate d j low = elim (cases_eq (d + 1) j) [
  | inl same ↦
      let test : int_eq (pos (d + 1)) (pos j) ≡ true = (Decides-int_eq (pos (d + 1)) (pos j)).1 (ap (λ n. pos n) same) in
      rw (test, one_same (d + 1) j same) refl
  | inr other ↦
      let test : int_eq (pos (d + 1)) (pos j) ≡ false = is_false (pos (d + 1)) (pos j) (λ same. other (omega (arith, ints, same))) in
      let bar : int_eq (pos (d + 1)) (barred j) ≡ false = is_false (pos (d + 1)) (barred j) (λ same. omega (arith, ints, same)) in
      rw (test, bar, one_other (d + 1) j other) refl
]
  where
    is_false : (x y : ℤ) → (x ≡ y → ⊥) → int_eq x y ≡ false
    is_false x y other = by_test (int_eq x y) refl
      where
        by_test : (b : Bool) → int_eq x y ≡ b → b ≡ false
        by_test true is = absurd (other ((Decides-int_eq x y).0 is))
        by_test false is = refl

vector_weight : (t : CartanType) (d : ℕ) → IsCartan t → d < coordinates t → base_weight t Vector d ≡ weight_from (coordinates t) (λ j. pos (2 * one_if (d + 1) j))
unfolding base_weight letter_weight
vector_weight t d c lt = rw (unbarred t d c lt) (from_same _ (λ j. pos (2 * one_if (d + 1) j)) 1 (coordinates t) (λ j low high. letter_coordinate d j low))

sum_from : (n : ℕ) (f g : ℕ → ℤ) → sum_of (weight_from n f) (weight_from n g) ≡ weight_from n (λ j. f j +ℤ g j)
sum_from n f g =
    rw (length-weight_from n f) (from_same (λ j. coordinate (weight_from n f) j +ℤ coordinate (weight_from n g) j) (λ j. f j +ℤ g j) 1 n (λ j low high.
    ap₂ (λ x y. x +ℤ y) (coordinate-weight_from n f j low (omega arith)) (coordinate-weight_from n g j low (omega arith))))

weight_counted : (t : CartanType) (ds : List ℕ) → IsCartan t → AreBelow (coordinates t) ds →
    weight_along t (replicate (length ds) Vector) ds ≡ weight_from (coordinates t) (λ j. pos (2 * counted j ds))
weight_counted t [] c below = refl
weight_counted t (d ∷ ds) c below =
    ap₂ sum_of (vector_weight t d c below.0) (weight_counted t ds c below.1)
    ∙ (sum_from (coordinates t) (λ j. pos (2 * one_if (d + 1) j)) (λ j. pos (2 * counted j ds))
    ∙ from_same (λ j. pos (2 * one_if (d + 1) j) +ℤ pos (2 * counted j ds)) (λ j. pos (2 * counted j (d ∷ ds))) 1 (coordinates t) (λ j low high. ap (λ n. pos n) (omega arith)))

-- ---- how often a letter is in a top word

counted-append : (j : ℕ) (ds es : List ℕ) → counted j (ds ++ es) ≡ counted j ds + counted j es
counted-append j [] es = omega arith
counted-append j (d ∷ ds) es = omega (arith, counted-append j ds es)

counted-reverse : (j : ℕ) (ds : List ℕ) → counted j (reverse ds) ≡ counted j ds
counted-reverse j [] = refl
counted-reverse j (d ∷ ds) = omega (arith, ap (counted j) (reverse_first d ds), counted-append j (reverse ds) (d ∷ []), counted-reverse j ds)

counted-listed : (o : Order) (j : ℕ) (ds : List ℕ) → counted j (listed_in o ds) ≡ counted j ds
counted-listed Standard j ds = refl
counted-listed Kashiwara j ds = counted-reverse j ds

counted_down : (j h : ℕ) → 1 ≤ j → counted j (descending h) ≡ (if nat_lt (j - 1) h then 1 else 0)
counted_down j zero low = sym (none_more (j - 1) 0 (omega arith))
counted_down j (suc h) low = elim (cases_eq (h + 1) j) [
  | inl same ↦
      let here : one_if (h + 1) j ≡ 1 = one_same (h + 1) j same in
      let before : (if nat_lt (j - 1) h then 1 else 0) ≡ 0 = none_more (j - 1) h (omega arith) in
      let now : (if nat_lt (j - 1) (suc h) then 1 else 0) ≡ 1 = one_more (j - 1) (suc h) (omega arith) in
      omega (arith, here, before, now, counted_down j h low)
  | inr other ↦
      let here : one_if (h + 1) j ≡ 0 = one_other (h + 1) j other in
      elim (cases_lt (j - 1) h) [
        | inl lt ↦ omega (arith, here, one_more (j - 1) h lt, one_more (j - 1) (suc h) (omega arith), counted_down j h low)
        | inr over ↦ omega (arith, here, none_more (j - 1) h over, none_more (j - 1) (suc h) (omega arith), counted_down j h low)
      ]
]

counted_top : (rows : List ℕ) (j c : ℕ) → is_falling rows ≡ true → 1 ≤ j → counted j (map (λ (b : Box). b.row) (boxes_before rows c)) ≡ min c (get_or rows (j - 1) 0)
counted_top rows j zero falls low = omega arith
counted_top rows j (suc c) falls low =
    let before = counted_top rows j c falls low in
    let split = ap (λ ds. counted j ds) (top_more rows c) ∙ counted-append j (map (λ (b : Box). b.row) (boxes_before rows c)) (descending (height rows c)) in
    let down = counted_down j (height rows c) low in
    elim (cases_lt c (get_or rows (j - 1) 0)) [
      | inl lt ↦ omega (arith, split, before, down, one_more (j - 1) (height rows c) (in_column rows (j - 1) c falls lt))
      | inr over ↦ omega (arith, split, before, down, none_more (j - 1) (height rows c) (short over))
    ]
  where
    short : get_or rows (j - 1) 0 ≤ c → height rows c ≤ j - 1
    short over = elim (cases_lt (j - 1) (height rows c)) [
      | inl lt ↦ absurd (omega (arith, in_row rows (j - 1) c falls lt))
      | inr le ↦ le
    ]

pub row_within : (rows : List ℕ) (r : ℕ) → is_falling rows ≡ true → get_or rows r 0 ≤ width rows
row_within [] r falls = omega arith
row_within (n ∷ rows) zero falls = omega arith
row_within (n ∷ rows) (suc r) falls = row_le n rows r falls

pub top_has_weight : TopHasWeight
unfolding word_weight top_word
top_has_weight s h =
    let ds : List ℕ = map (λ (b : Box). b.row) (boxes_read s) in
    let weight = weight_counted s.cartan (map (λ (b : Box). b.row) (boxes_read s)) h.cartan (top_below s h) in
    let here = rw (length-top s h) at weight in
    let times : (j : ℕ) → counted j (map (λ (b : Box). b.row) (boxes_read s)) ≡ counted j (map (λ (b : Box). b.row) (boxes s.rows)) =
    λ j. ap (counted j) (top_listed s) ∙ counted-listed s.order j (map (λ (b : Box). b.row) (boxes s.rows)) in
    here
    ∙ from_same (λ j. pos (2 * counted j (map (λ (b : Box). b.row) (boxes_read s)))) (λ j. pos (2 * slice_index s.rows (j - 1))) 1 (coordinates s.cartan) (λ j low high.
    ap (λ n. pos n) (omega (arith, times j, counted_top s.rows j (width s.rows) h.falling low, row_within s.rows (j - 1) h.falling)))

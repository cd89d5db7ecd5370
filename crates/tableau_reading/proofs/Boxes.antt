-- The boxes of a shape in the order of the reading.
use Rattle.std.proofs.Common.{◌≡◌, ◌∙◌, refl, sym, ap, subst, ℕ, zero, suc, ◌+◌, ◌-◌, ◌≤◌, ◌<◌, ◌==◌, nat_le, nat_lt, min, Bool, true, false, ◌||◌, if◌then◌else◌, List, [], ◌∷◌, length, get_or, inl, inr, length-append, arith}
use Rattle.std.specs.Prelude.{sum, count_by}
use Rattle.std.proofs.lemmas.Bool.{and_parts, cases_lt}
use Rattle.std.proofs.lemmas.Bool.Decides.{nat_tests}
use Rattle.std.proofs.lemmas.List.{get_or_append_left, get_or-append_right, get_or_past}
use Rattle.std.proofs.lemmas.List.FromFn.{length-map-range_with_len, get_or-map-range_with_len}
use Rattle.std.proofs.lemmas.List.Sums.{sum_by-cons}
use Rattle.tableau_reading.specs.Shapes.{ShapeType, is_falling, is_empty}
use Rattle.tableau_reading.specs.Readings.{Box, box, height, width, column_boxes, boxes_before, boxes, column_place}

-- ---- heights of columns

pub one_more : (c n : ℕ) → c < n → ◌≡◌ {A = ℕ} (if nat_lt c n then 1 else 0) 1
one_more c n lt = let test : nat_lt c n ≡ true = grind (arith, nat_tests) in rw test refl

pub none_more : (c n : ℕ) → n ≤ c → ◌≡◌ {A = ℕ} (if nat_lt c n then 1 else 0) 0
none_more c n le = let test : nat_lt c n ≡ false = grind (arith, nat_tests) in rw test refl

at_most_one : (c n : ℕ) → (if nat_lt c n then 1 else 0) ≤ 1
at_most_one c n = short (nat_lt c n)
  where
    short : (b : Bool) → (if b then 1 else 0) ≤ 1
    short true = omega arith
    short false = omega arith

pub height-le : (rows : List ℕ) (c : ℕ) → height rows c ≤ length rows
height-le [] c = omega arith
height-le (n ∷ rows) c = omega (arith, height-le rows c, at_most_one c n)

pub height-count : (rows : List ℕ) (c : ℕ) → count_by (λ n. nat_lt c n) rows ≡ height rows c
height-count [] c = refl
height-count (n ∷ rows) c = rw (sum_by-cons (λ m. if nat_lt c m then 1 else 0) n rows) (ap (λ h. (if nat_lt c n then 1 else 0) + h) (height-count rows c))

falls_behind : (m : ℕ) (rows : List ℕ) → is_falling (m ∷ rows) ≡ true → is_falling rows ≡ true
falls_behind m [] falls = refl
falls_behind m (n ∷ rows) falls = (and_parts _ _ falls).1

falls_next : (m n : ℕ) (rows : List ℕ) → is_falling (m ∷ n ∷ rows) ≡ true → n ≤ m
falls_next m n rows falls = let test : nat_le n m ≡ true = (and_parts _ _ falls).0 in grind (arith, nat_tests)

-- no row is longer than the first
pub row_le : (m : ℕ) (rows : List ℕ) (r : ℕ) → is_falling (m ∷ rows) ≡ true → get_or rows r 0 ≤ m
row_le m [] r falls = omega arith
row_le m (n ∷ rows) zero falls = falls_next m n rows falls
row_le m (n ∷ rows) (suc r) falls = omega (arith, row_le n rows r (falls_behind m (n ∷ rows) falls), falls_next m n rows falls)

pub in_column : (rows : List ℕ) (r c : ℕ) → is_falling rows ≡ true → c < get_or rows r 0 → r < height rows c
in_column [] r c falls lt = absurd (omega arith)
in_column (n ∷ rows) zero c falls lt = omega (arith, one_more c n lt)
in_column (n ∷ rows) (suc r) c falls lt =
    let first : c < n = omega (arith, row_le n rows r falls) in
    omega (arith, one_more c n first, in_column rows r c (falls_behind n rows falls) lt)

no_height : (m : ℕ) (rows : List ℕ) (c : ℕ) → is_falling (m ∷ rows) ≡ true → m ≤ c → height rows c ≡ 0
no_height m [] c falls short = refl
no_height m (n ∷ rows) c falls short =
    let lower : n ≤ c = omega (arith, falls_next m n rows falls) in
    omega (arith, none_more c n lower, no_height n rows c (falls_behind m (n ∷ rows) falls) lower)

pub in_row : (rows : List ℕ) (r c : ℕ) → is_falling rows ≡ true → r < height rows c → c < get_or rows r 0
in_row [] r c falls lt = absurd (omega arith)
in_row (n ∷ rows) zero c falls lt = elim (cases_lt c n) [
  | inl longer ↦ longer
  | inr short ↦ absurd (omega (arith, none_more c n short, no_height n rows c falls short))
]
in_row (n ∷ rows) (suc r) c falls lt = elim (cases_lt c n) [
  | inl longer ↦ in_row rows r c (falls_behind n rows falls) (omega (arith, one_more c n longer))
  | inr short ↦ absurd (omega (arith, none_more c n short, no_height n rows c falls short))
]

-- ---- places of boxes

pub length-column : (rows : List ℕ) (c : ℕ) → length (column_boxes rows c) ≡ height rows c
length-column rows c = length-map-range_with_len (λ k. box (height rows c - 1 - k) c) 0 (height rows c)

pub length-before : (rows : List ℕ) (c : ℕ) → length (boxes_before rows (suc c)) ≡ length (boxes_before rows c) + height rows c
length-before rows c = length-append (boxes_before rows c) (column_boxes rows c) ∙ ap (λ h. length (boxes_before rows c) + h) (length-column rows c)

pub before_le : (rows : List ℕ) (c d : ℕ) → c ≤ d → length (boxes_before rows c) ≤ length (boxes_before rows d)
before_le rows c zero le = let none : c ≡ 0 = omega arith in rw none (omega arith)
before_le rows c (suc d) le = elim (cases_lt c (suc d)) [
  | inl lt ↦ omega (arith, before_le rows c d (omega arith), length-before rows d)
  | inr over ↦ let same : c ≡ suc d = omega arith in rw same (omega arith)
]

box_before : (rows : List ℕ) (k c d : ℕ) → c ≤ d → k < length (boxes_before rows c) → get_or (boxes_before rows d) k (box 0 0) ≡ get_or (boxes_before rows c) k (box 0 0)
box_before rows k c zero le lt = let none : c ≡ 0 = omega arith in rw none refl
box_before rows k c (suc d) le lt = elim (cases_lt c (suc d)) [
  | inl less ↦
      get_or_append_left (boxes_before rows d) (column_boxes rows d) (box 0 0) k (omega (arith, before_le rows c d (omega arith)))
      ∙ box_before rows k c d (omega arith) lt
  | inr over ↦ let same : c ≡ suc d = omega arith in rw same refl
]

in_last_column : (rows : List ℕ) (c j : ℕ) → j < height rows c →
    get_or (boxes_before rows (suc c)) (length (boxes_before rows c) + j) (box 0 0) ≡ box (height rows c - 1 - j) c
in_last_column rows c j lt =
    let start : length (boxes_before rows c) + j - length (boxes_before rows c) ≡ j = omega arith in
    get_or-append_right (boxes_before rows c) (column_boxes rows c) (length (boxes_before rows c)) (length (boxes_before rows c) + j) (box 0 0) refl (omega arith)
    ∙ rw start (get_or-map-range_with_len (λ k. box (height rows c - 1 - k) c) 0 (height rows c) j j (box 0 0) lt (omega arith))

-- the box at a place of the reading, j places into the column c
pub box_here : (rows : List ℕ) (c j k : ℕ) → c < width rows → j < height rows c → j + length (boxes_before rows c) ≡ k →
    get_or (boxes rows) k (box 0 0) ≡ box (height rows c - 1 - j) c
box_here rows c j k lt within is =
    let at : k ≡ length (boxes_before rows c) + j = omega arith in
    let inside : k < length (boxes_before rows (suc c)) = omega (arith, length-before rows c) in
    box_before rows k (suc c) (width rows) (omega arith) inside ∙ rw at (in_last_column rows c j within)

pub place_below : (s : ShapeType) (r c : ℕ) → c < width s.rows → r < height s.rows c → column_place s.rows r c < length (boxes s.rows)
place_below s r c lt within = omega (arith, length-before s.rows c, before_le s.rows (suc c) (width s.rows) (omega arith))

-- the reading has a box at its place
pub box_at_place : (s : ShapeType) (r c : ℕ) → c < width s.rows → r < height s.rows c → get_or (boxes s.rows) (column_place s.rows r c) (box 0 0) ≡ box r c
box_at_place s r c lt within =
    let h : ℕ = height s.rows c in
    let back : height s.rows c - 1 - (height s.rows c - 1 - r) ≡ r = omega arith in
    let found = box_here s.rows c (height s.rows c - 1 - r) (column_place s.rows r c) lt (omega arith) (omega arith) in
    found ∙ rw back refl

-- what is known of the box at a place
pub record IsBoxAt (s : ShapeType) (k : ℕ) (b : Box) : Type 0 where
  pub place : column_place s.rows b.row b.column ≡ k
  pub row : b.row < height s.rows b.column
  pub column : b.column < width s.rows

in_columns : (s : ShapeType) (k d : ℕ) → d ≤ width s.rows → k < length (boxes_before s.rows d) → IsBoxAt s k (get_or (boxes_before s.rows d) k (box 0 0))
in_columns s k zero few lt = absurd (omega arith)
in_columns s k (suc d) few lt = elim (cases_lt k (length (boxes_before s.rows d))) [
  | inl before ↦
      let same = get_or_append_left (boxes_before s.rows d) (column_boxes s.rows d) (box 0 0) k before in
      rw same (in_columns s k d (omega arith) before)
  | inr after ↦ last after
]
  where
    last : length (boxes_before s.rows d) ≤ k → IsBoxAt s k (get_or (boxes_before s.rows (suc d)) k (box 0 0))
    last after =
        let j : ℕ = k - length (boxes_before s.rows d) in
        let at : k ≡ length (boxes_before s.rows d) + (k - length (boxes_before s.rows d)) = omega arith in
        let within : k - length (boxes_before s.rows d) < height s.rows d = omega (arith, length-before s.rows d) in
        let found : get_or (boxes_before s.rows (suc d)) k (box 0 0) ≡ box (height s.rows d - 1 - (k - length (boxes_before s.rows d))) d =
        ap (λ i. get_or (boxes_before s.rows (suc d)) i (box 0 0)) at ∙ in_last_column s.rows d (k - length (boxes_before s.rows d)) within in
        let known : IsBoxAt s k (box (height s.rows d - 1 - (k - length (boxes_before s.rows d))) d) = record { place = omega arith; row = omega arith; column = omega arith } in
        subst (IsBoxAt s k) (sym found) known

pub box_at : (s : ShapeType) (k : ℕ) → k < length (boxes s.rows) → IsBoxAt s k (get_or (boxes s.rows) k (box 0 0))
box_at s k lt = in_columns s k (width s.rows) (omega arith) lt

-- ---- the number of boxes

-- the boxes in the first c columns, row by row
abbrev capped : List ℕ → ℕ → ℕ
capped [] c = 0
capped (n ∷ rows) c = min c n + capped rows c

capped_none : (rows : List ℕ) → capped rows 0 ≡ 0
capped_none [] = refl
capped_none (n ∷ rows) = omega (arith, capped_none rows)

capped_more : (rows : List ℕ) (c : ℕ) → capped rows (suc c) ≡ capped rows c + height rows c
capped_more [] c = refl
capped_more (n ∷ rows) c = elim (cases_lt c n) [
  | inl lt ↦ omega (arith, one_more c n lt, capped_more rows c)
  | inr over ↦ omega (arith, none_more c n over, capped_more rows c)
]

length-capped : (rows : List ℕ) (c : ℕ) → length (boxes_before rows c) ≡ capped rows c
length-capped rows zero = sym (capped_none rows)
length-capped rows (suc c) = omega (arith, length-before rows c, capped_more rows c, length-capped rows c)

capped_all : (rows : List ℕ) (c : ℕ) → ((r : ℕ) → get_or rows r 0 ≤ c) → capped rows c ≡ sum rows
capped_all [] c most = refl
capped_all (n ∷ rows) c most =
    omega (arith, sum_by-cons (λ m. m) n rows, most 0, capped_all rows c (λ r. most (suc r)))

pub length-boxes : (rows : List ℕ) → is_falling rows ≡ true → length (boxes rows) ≡ sum rows
length-boxes [] falls = refl
length-boxes (n ∷ rows) falls = length-capped (n ∷ rows) n ∙ capped_all (n ∷ rows) n most
  where
    most : (r : ℕ) → get_or (n ∷ rows) r 0 ≤ n
    most zero = omega arith
    most (suc r) = row_le n rows r falls

-- ---- shapes that are taken have a box in each row

-- the row of a box in the shape is a row, and its column is within the width
pub row_there : (rows : List ℕ) (r c : ℕ) → c < get_or rows r 0 → r < length rows
row_there rows r c lt = elim (cases_lt r (length rows)) [ inl within ↦ within | inr past ↦ absurd (omega (arith, get_or_past rows r 0 past)) ]

pub column_there : (rows : List ℕ) (r c : ℕ) → is_falling rows ≡ true → c < get_or rows r 0 → c < width rows
column_there [] r c falls lt = absurd (omega arith)
column_there (n ∷ rows) zero c falls lt = lt
column_there (n ∷ rows) (suc r) c falls lt = omega (arith, row_le n rows r falls)

pub some_boxes : (rows : List ℕ) → is_empty rows ≡ false → 0 < sum rows
some_boxes [] filled = let no : ⊥ = cc in absurd no
some_boxes (zero ∷ rows) filled = absurd (not_true (length (zero ∷ rows) == 0) filled)
  where
    not_true : (b : Bool) → (b || true) ≡ false → ⊥
    not_true true is = cc
    not_true false is = cc
some_boxes (suc n ∷ rows) filled = omega (arith, sum_by-cons (λ m. m) (suc n) rows)

pub width-first : (rows : List ℕ) → get_or rows 0 0 ≡ width rows
width-first [] = refl
width-first (n ∷ rows) = refl

-- Boxes next to each other in the reading of the standard order, and the entries of a semistandard reading along rows and columns.
use Rattle.std.proofs.Common.{◌≡◌, sym, ap, subst, ℕ, zero, suc, ◌+◌, ◌-◌, ◌≤◌, ◌<◌, true, List, get_or, ◌⊎◌, inl, inr, arith}
use Rattle.std.proofs.lemmas.Bool.{cases_lt, cases_order}
use Rattle.crystal_cartan.specs.Types.{CartanType}
use Rattle.tableau_reading.specs.Shapes.{ShapeType, tableau_shape, IsShape, is_falling, box_count}
use Rattle.tableau_reading.specs.Readings.{column_place}
use Rattle.tableau_reading.proofs.Boxes.{in_row, in_column, length-before, before_le}
use Rattle.tableau_reading.proofs.Orders.{read_at}
use Rattle.tableau_census.specs.Semistandard.{entry, IsSemistandard}

-- ---- places

pub place_above : (rows : List ℕ) (r c : ℕ) → is_falling rows ≡ true → c < get_or rows (suc r) 0 → column_place rows r c ≡ column_place rows (suc r) c + 1
place_above rows r c falls lt = omega (arith, in_column rows (suc r) c falls lt)

-- of two boxes of a column the lower one is read first
pub place_lower : (rows : List ℕ) (r q c : ℕ) → is_falling rows ≡ true → c < get_or rows q 0 → r < q → column_place rows q c < column_place rows r c
place_lower rows r q c falls lt less = omega (arith, in_column rows q c falls lt)

-- the columns are read from left to right
pub place_later : (rows : List ℕ) (r q c d : ℕ) → is_falling rows ≡ true → c < get_or rows r 0 → c < d → column_place rows r c < column_place rows q d
place_later rows r q c d falls lt less = omega (arith, in_column rows r c falls lt, length-before rows c, before_le rows (suc c) d less)

-- ---- boxes of the shape

pub row_above : (rows : List ℕ) (r q c : ℕ) → is_falling rows ≡ true → c < get_or rows q 0 → r ≤ q → c < get_or rows r 0
row_above rows r q c falls lt le = in_row rows r c falls (omega (arith, in_column rows q c falls lt))

module _ (t : CartanType) (rows : List ℕ) (h : IsShape (tableau_shape t rows)) where
  abbrev here : ShapeType
  here = tableau_shape t rows

  -- a box between a box and its right neighbour is above the first or beneath the second
  pub record BoxAt (k : ℕ) : Type 0 where
    pub row : ℕ
    pub column : ℕ
    pub within : column < get_or rows row 0
    pub place : column_place rows row column ≡ k

  pub box_at : (k : ℕ) → k < box_count here → BoxAt k
  box_at k lt =
      let known = read_at here k h lt in
      record { row = _; column = _; within = known.within; place = known.place }

  pub between_neighbours : (r c k : ℕ) (x : BoxAt k) → suc c < get_or rows r 0 → column_place rows r c < k → k < column_place rows r (suc c)
      → ((x.column ≡ c) × (x.row < r)) ⊎ ((x.column ≡ suc c) × (r < x.row))
  between_neighbours r c k x lt low high = elim (cases_order x.column c) [
    | inl same ↦ inl (same, beside_first same)
    | inr (inl before) ↦ absurd (omega (arith, place_later rows x.row r x.column c h.falling x.within before, x.place))
    | inr (inr after) ↦ elim (cases_lt (suc c) x.column) [
      | inl beyond ↦ absurd (omega (arith, place_later rows r x.row (suc c) x.column h.falling lt beyond, x.place))
      | inr near ↦ let same : x.column ≡ suc c = omega arith in inr (same, beside_second same)
    ]
  ]
    where
      beside_first : x.column ≡ c → x.row < r
      beside_first same = elim (cases_lt x.row r) [
        | inl less ↦ less
        | inr over ↦ absurd (omega (arith, ap (column_place rows x.row) same, x.place))
      ]

      beside_second : x.column ≡ suc c → r < x.row
      beside_second same = elim (cases_lt r x.row) [
        | inl less ↦ less
        | inr over ↦ absurd (omega (arith, ap (column_place rows x.row) same, x.place))
      ]

  -- ---- entries

  module _ (w : List ℕ) (good : IsSemistandard here w) where
    column_rises : (r c n : ℕ) → c < get_or rows (r + n) 0 → entry here w r c + n ≤ entry here w (r + n) c
    column_rises r c zero lt = let none : r ≡ r + 0 = omega arith in subst (λ q. entry here w r c + 0 ≤ entry here w q c) none (omega arith)
    column_rises r c (suc n) lt =
        let next : suc (r + n) ≡ r + suc n = omega arith in
        let there : c < get_or rows (suc (r + n)) 0 = subst (λ q. c < get_or rows q 0) (sym next) lt in
        let above : c < get_or rows (r + n) 0 = row_above rows (r + n) (suc (r + n)) c h.falling there (omega arith) in
        let rest = column_rises r c n above in
        let step = good.columns (r + n) c there in
        subst (λ q. entry here w r c + suc n ≤ entry here w q c) next (omega arith)

    pub column_below : (r q c : ℕ) → r ≤ q → c < get_or rows q 0 → entry here w r c + (q - r) ≤ entry here w q c
    column_below r q c le lt =
        let sum : r + (q - r) ≡ q = omega arith in
        subst (λ p. entry here w r c + (q - r) ≤ entry here w p c) sum (column_rises r c (q - r) (subst (λ p. c < get_or rows p 0) (sym sum) lt))

    pub row_later : (r c d : ℕ) → c ≤ d → d < get_or rows r 0 → entry here w r c ≤ entry here w r d
    row_later r c zero le lt = let none : 0 ≡ c = omega arith in subst (λ b. entry here w r b ≤ entry here w r 0) none (omega arith)
    row_later r c (suc d) le lt = elim (cases_lt c (suc d)) [
      | inl less ↦ omega (arith, row_later r c d (omega arith) (omega arith), good.rows r d lt)
      | inr over ↦ let same : suc d ≡ c = omega arith in subst (λ b. entry here w r b ≤ entry here w r (suc d)) same (omega arith)
    ]

-- The operators of type A keep semistandard readings.
use Rattle.std.proofs.Common.{◌≡◌, ◌∙◌, ap, subst, ℕ, zero, suc, ◌+◌, ◌≤◌, ◌<◌, ◌≢◌, List, length, get_or, set, inl, inr, arith}
use Rattle.std.proofs.lemmas.Bool.{cases_lt, cases_eq}
use Rattle.std.proofs.lemmas.List.{get_or-set_other}
use Rattle.std.proofs.lemmas.Grind.{get_or-set_at}
use Rattle.crystal_cartan.specs.Types.{CartanType}
use Rattle.tableau_reading.specs.Shapes.{ShapeType, tableau_shape, IsShape, box_count}
use Rattle.tableau_reading.specs.Readings.{column_place}
use Rattle.tableau_census.specs.Semistandard.{entry, IsSemistandard}
use Rattle.tableau_census.proofs.OpenPlaces.{IsOpen}
use Rattle.tableau_reading.proofs.Orders.{placed}
use Rattle.tableau_census.proofs.Neighbours as near

module _ (t : CartanType) (rows : List ℕ) (h : IsShape (tableau_shape t rows)) (w : List ℕ) (size : length w ≡ box_count (tableau_shape t rows))
    (good : IsSemistandard (tableau_shape t rows) w) (a p : ℕ) (is_open : IsOpen a w p) where
  abbrev here : ShapeType
  here = tableau_shape t rows

  within : (r c : ℕ) → c < get_or rows r 0 → column_place rows r c < length w
  within r c lt = omega (arith, (placed here r c h lt).below)

  -- the digit at a place, by its box and the column of that box
  column_entry : (k : ℕ) {d : ℕ} (b : near.BoxAt t rows h k) (c : ℕ) → b.column ≡ c → get_or w k 0 ≡ d → entry here w b.row c ≡ d
  column_entry k {d} b c same digit = subst (λ i. get_or w (column_place rows b.row i) 0 ≡ d) same (ap (λ i. get_or w i 0) b.place ∙ digit)

  -- beneath an open a stands more than a + 1
  below_open : (r c : ℕ) → c < get_or rows (suc r) 0 → column_place rows r c ≡ p → entry here w r c ≡ a → a + 1 < entry here w (suc r) c
  below_open r c lt at is = elim (cases_lt (a + 1) (entry here w (suc r) c)) [
    | inl more ↦ more
    | inr less ↦
        let next = near.place_above rows r c h.falling lt in
        let same : entry here w (suc r) c ≡ a + 1 = omega (arith, good.columns r c lt) in
        let gap = is_open.before (column_place rows (suc r) c) (omega arith) same in
        absurd (omega (arith, gap.above, gap.below))
  ]

  -- above an open a + 1 stands less than a
  above_open : (r c : ℕ) → c < get_or rows (suc r) 0 → column_place rows (suc r) c ≡ p → entry here w (suc r) c ≡ a + 1 → entry here w r c < a
  above_open r c lt at is = elim (cases_lt (entry here w r c) a) [
    | inl less ↦ less
    | inr more ↦
        let next = near.place_above rows r c h.falling lt in
        let there : c < get_or rows r 0 = near.row_above rows r (suc r) c h.falling lt (omega arith) in
        let same : entry here w r c ≡ a = omega (arith, good.columns r c lt) in
        let gap = is_open.behind (column_place rows r c) (omega arith) (within r c there) same in
        absurd (omega (arith, gap.above, gap.below))
  ]

  -- right of an open a stands more than a
  right_open : (r c : ℕ) → suc c < get_or rows r 0 → column_place rows r c ≡ p → entry here w r c ≡ a → a < entry here w r (suc c)
  right_open r c lt at is = elim (cases_lt a (entry here w r (suc c))) [
    | inl more ↦ more
    | inr less ↦ absurd (taken (omega (arith, good.rows r c lt)))
  ]
    where
      left : c < get_or rows r 0
      left = omega arith

      over : (q : ℕ) → entry here w q c ≡ a + 1 → q < r → ⊥
      over q digit above = omega (arith, near.column_below t rows h w good q r c (omega arith) left)

      under : (q : ℕ) → entry here w q (suc c) ≡ a + 1 → suc c < get_or rows q 0 → r < q → ⊥
      under q digit there beneath =
          let next : suc c < get_or rows (suc r) 0 = near.row_above rows (suc r) q (suc c) h.falling there beneath in
          let low = near.column_below t rows h w good (suc r) q (suc c) beneath there in
          let beside = good.rows (suc r) c next in
          omega (arith, below_open r c (omega arith) at is)

      -- no a + 1 stands between the two
      none_between : (k : ℕ) → near.BoxAt t rows h k → p < k → k < column_place rows r (suc c) → get_or w k 0 ≡ a + 1 → ⊥
      none_between k b low high digit = elim (near.between_neighbours t rows h r c k b lt (omega arith) high) [
        | inl (same, above) ↦ over b.row (column_entry k b c same digit) above
        | inr (same, beneath) ↦ under b.row (column_entry k b (suc c) same digit) (subst (λ d. d < get_or rows b.row 0) same b.within) beneath
      ]

      taken : entry here w r (suc c) ≡ a → ⊥
      taken same =
          let after : p < column_place rows r (suc c) = omega (arith, near.place_later rows r r c (suc c) h.falling left (omega arith)) in
          let gap = is_open.behind (column_place rows r (suc c)) after (within r (suc c) lt) same in
          none_between gap.at (near.box_at t rows h gap.at (omega (arith, gap.below, within r (suc c) lt))) gap.above gap.below gap.is

  -- left of an open a + 1 stands at most a
  left_open : (r c : ℕ) → suc c < get_or rows r 0 → column_place rows r (suc c) ≡ p → entry here w r (suc c) ≡ a + 1 → entry here w r c ≤ a
  left_open r c lt at is = elim (cases_lt a (entry here w r c)) [
    | inr less ↦ less
    | inl more ↦ absurd (taken (omega (arith, good.rows r c lt)))
  ]
    where
      left : c < get_or rows r 0
      left = omega arith

      over : (r q : ℕ) → entry here w q c ≡ a → q < r → suc c < get_or rows r 0 → column_place rows r (suc c) ≡ p → entry here w r (suc c) ≡ a + 1 → ⊥
      over zero q digit above there at is = omega arith
      over (suc r) q digit above there at is =
          let beside : suc c < get_or rows r 0 = near.row_above rows r (suc r) (suc c) h.falling there (omega arith) in
          let low = near.column_below t rows h w good q r c (omega arith) (omega arith) in
          let step = good.rows r c beside in
          omega (arith, above_open r (suc c) there at is)

      under : (q : ℕ) → entry here w q (suc c) ≡ a → suc c < get_or rows q 0 → r < q → ⊥
      under q digit there beneath = omega (arith, near.column_below t rows h w good r q (suc c) (omega arith) there)

      -- no a stands between the two
      none_between : (k : ℕ) → near.BoxAt t rows h k → column_place rows r c < k → k < p → get_or w k 0 ≡ a → ⊥
      none_between k b low high digit = elim (near.between_neighbours t rows h r c k b lt low (omega arith)) [
        | inl (same, above) ↦ over r b.row (column_entry k b c same digit) above lt at is
        | inr (same, beneath) ↦ under b.row (column_entry k b (suc c) same digit) (subst (λ d. d < get_or rows b.row 0) same b.within) beneath
      ]

      taken : entry here w r c ≡ a + 1 → ⊥
      taken same =
          let before : column_place rows r c < p = omega (arith, near.place_later rows r r c (suc c) h.falling left (omega arith)) in
          let gap = is_open.before (column_place rows r c) before same in
          none_between gap.at (near.box_at t rows h gap.at (omega (arith, gap.below, within r (suc c) lt))) gap.above gap.below gap.is

-- ---- the digit at the open place is changed

-- a digit that suits its four neighbours
module _ (t : CartanType) (rows : List ℕ) (h : IsShape (tableau_shape t rows)) (w : List ℕ) (good : IsSemistandard (tableau_shape t rows) w)
    (p to : ℕ) (inside : p < length w)
    (left : (r c : ℕ) → suc c < get_or rows r 0 → column_place rows r c ≡ p → to ≤ entry (tableau_shape t rows) w r (suc c))
    (right : (r c : ℕ) → suc c < get_or rows r 0 → column_place rows r (suc c) ≡ p → entry (tableau_shape t rows) w r c ≤ to)
    (upper : (r c : ℕ) → c < get_or rows (suc r) 0 → column_place rows r c ≡ p → to < entry (tableau_shape t rows) w (suc r) c)
    (lower : (r c : ℕ) → c < get_or rows (suc r) 0 → column_place rows (suc r) c ≡ p → entry (tableau_shape t rows) w r c < to) where
  changed : (r c : ℕ) → column_place rows r c ≡ p → get_or (set w p to) (column_place rows r c) 0 ≡ to
  changed r c same = get_or-set_at w p (column_place rows r c) to 0 same inside

  unchanged : (r c : ℕ) → column_place rows r c ≢ p → get_or (set w p to) (column_place rows r c) 0 ≡ get_or w (column_place rows r c) 0
  unchanged r c other = get_or-set_other w p (column_place rows r c) to 0 other

  kept_rows : (r c : ℕ) → suc c < get_or rows r 0 → get_or (set w p to) (column_place rows r c) 0 ≤ get_or (set w p to) (column_place rows r (suc c)) 0
  kept_rows r c lt =
      let order : column_place rows r c < column_place rows r (suc c) = near.place_later rows r r c (suc c) h.falling (omega arith) (omega arith) in
      elim (cases_eq (column_place rows r c) p) [
        | inl same ↦ omega (arith, changed r c same, unchanged r (suc c) (λ e. omega arith), left r c lt same)
        | inr first ↦ elim (cases_eq (column_place rows r (suc c)) p) [
          | inl same ↦ omega (arith, unchanged r c first, changed r (suc c) same, right r c lt same)
          | inr second ↦ omega (arith, unchanged r c first, unchanged r (suc c) second, good.rows r c lt)
        ]
      ]

  kept_columns : (r c : ℕ) → c < get_or rows (suc r) 0 → get_or (set w p to) (column_place rows r c) 0 < get_or (set w p to) (column_place rows (suc r) c) 0
  kept_columns r c lt =
      let order : column_place rows (suc r) c < column_place rows r c = near.place_lower rows r (suc r) c h.falling lt (omega arith) in
      elim (cases_eq (column_place rows r c) p) [
        | inl same ↦ omega (arith, changed r c same, unchanged (suc r) c (λ e. omega arith), upper r c lt same)
        | inr first ↦ elim (cases_eq (column_place rows (suc r) c) p) [
          | inl same ↦ omega (arith, unchanged r c first, changed (suc r) c same, lower r c lt same)
          | inr second ↦ omega (arith, unchanged r c first, unchanged (suc r) c second, good.columns r c lt)
        ]
      ]

  kept : IsSemistandard (tableau_shape t rows) (set w p to)
  kept = record { rows = kept_rows; columns = kept_columns }

module _ (t : CartanType) (rows : List ℕ) (h : IsShape (tableau_shape t rows)) (w : List ℕ) (size : length w ≡ box_count (tableau_shape t rows))
    (good : IsSemistandard (tableau_shape t rows) w) (a p : ℕ) (is_open : IsOpen a w p) (inside : p < length w) where
  pub lowered_kept : get_or w p 0 ≡ a → IsSemistandard (tableau_shape t rows) (set w p (a + 1))
  lowered_kept is =
      let was : (r c : ℕ) → column_place rows r c ≡ p → get_or w (column_place rows r c) 0 ≡ a = λ r c at. ap (λ k. get_or w k 0) at ∙ is in
      kept t rows h w good p (a + 1) inside
      (λ r c lt at. omega (arith, right_open t rows h w size good a p is_open r c lt at (was r c at)))
      (λ r c lt at. omega (arith, good.rows r c lt, was r (suc c) at))
      (λ r c lt at. below_open t rows h w size good a p is_open r c lt at (was r c at))
      (λ r c lt at. omega (arith, good.columns r c lt, was (suc r) c at))

  pub raised_kept : get_or w p 0 ≡ a + 1 → IsSemistandard (tableau_shape t rows) (set w p a)
  raised_kept is =
      let was : (r c : ℕ) → column_place rows r c ≡ p → get_or w (column_place rows r c) 0 ≡ a + 1 = λ r c at. ap (λ k. get_or w k 0) at ∙ is in
      kept t rows h w good p a inside
      (λ r c lt at. omega (arith, good.rows r c lt, was r c at))
      (λ r c lt at. left_open t rows h w size good a p is_open r c lt at (was r (suc c) at))
      (λ r c lt at. omega (arith, good.columns r c lt, was r c at))
      (λ r c lt at. above_open t rows h w size good a p is_open r c lt at (was (suc r) c at))

-- The top word is the only semistandard reading in which every digit above 0 has the digit before it behind it.
use Rattle.std.proofs.Common.{◌≡◌, ◌∙◌, sym, ap, ℕ, zero, suc, ◌+◌, ◌-◌, ◌≤◌, ◌<◌, List, length, map, get_or, inl, inr, arith}
use Rattle.std.proofs.lemmas.Bool.{cases_lt, cases_order}
use Rattle.std.proofs.lemmas.List.{ext_get_or, get_or-map, length-map}
use Rattle.crystal_cartan.specs.Types.{CartanType}
use Rattle.tableau_reading.specs.Shapes.{ShapeType, tableau_shape, IsShape, box_count}
use Rattle.tableau_reading.specs.Readings.{Box, box, boxes_read, column_place, top_word}
use Rattle.tableau_census.specs.Semistandard.{entry, IsSemistandard}
use Rattle.tableau_census.proofs.OpenPlaces.{Between}
use Rattle.tableau_reading.proofs.Orders.{placed, read_at, length-boxes_read}
use Rattle.tableau_census.proofs.Neighbours.{place_later, row_above, BoxAt, box_at, column_below, row_later}

module _ (t : CartanType) (rows : List ℕ) (h : IsShape (tableau_shape t rows)) (w : List ℕ) (size : length w ≡ box_count (tableau_shape t rows))
    (good : IsSemistandard (tableau_shape t rows) w) (rank : ℕ) (small : (q : ℕ) → q < length w → get_or w q 0 ≤ rank)
    (closed : (a q : ℕ) → a < rank → q < length w → get_or w q 0 ≡ a + 1 → Between w q (length w) a) where
  abbrev here : ShapeType
  here = tableau_shape t rows

  -- a box with more than its row, and the box behind it that this asks for, are not both in a shape in which the boxes behind hold their rows
  torn : (r c k : ℕ) (b : BoxAt t rows h k) → c < get_or rows r 0 → column_place rows r c < k → r < entry here w r c
      → get_or w k 0 + 1 ≡ entry here w r c → ((q d : ℕ) → d < get_or rows q 0 → column_place rows r c < column_place rows q d → entry here w q d ≤ q) → ⊥
  torn r c k b lt after more digit behind = elim (cases_order b.column c) [
    | inl same ↦ absurd (omega (arith, beneath, ap (column_place rows b.row) same, b.place))
    | inr (inl before) ↦ absurd (omega (arith, place_later rows b.row r b.column c h.falling b.within before, b.place))
    | inr (inr later) ↦
        let there : b.column < get_or rows r 0 = row_above rows r b.row b.column h.falling b.within beneath in
        let low = behind r b.column there (place_later rows r r c b.column h.falling lt later) in
        absurd (omega (arith, row_later t rows h w good r c b.column (omega arith) there))
  ]
    where
      beneath : r ≤ b.row
      beneath =
          let is : entry here w b.row b.column ≡ get_or w k 0 = ap (λ i. get_or w i 0) b.place in
          omega (arith, behind b.row b.column b.within (omega (arith, b.place)))

  -- from the last box of the reading on, each holds its row at the most
  settled : (n r c : ℕ) → c < get_or rows r 0 → box_count here ≤ column_place rows r c + n → entry here w r c ≤ r
  settled zero r c lt last = absurd (omega (arith, (placed here r c h lt).below))
  settled (suc n) r c lt last = elim (cases_lt r (entry here w r c)) [
    | inr less ↦ less
    | inl more ↦
        let inside : column_place rows r c < length w = omega (arith, (placed here r c h lt).below) in
        let before : entry here w r c ≡ entry here w r c - 1 + 1 = omega arith in
        let gap = closed (entry here w r c - 1) (column_place rows r c) (omega (arith, small (column_place rows r c) inside)) inside before in
        let found = box_at t rows h gap.at (omega (arith, gap.below)) in
        absurd (torn r c gap.at found lt gap.above more (omega (arith, gap.is)) (λ q d there after. settled n q d there (omega arith)))
  ]

  holds_row : (r c : ℕ) → c < get_or rows r 0 → entry here w r c ≡ r
  holds_row r c lt =
      let high = settled (box_count here) r c lt (omega arith) in
      omega (arith, column_below t rows h w good 0 r c (omega arith) lt)

  pub is_top : w ≡ top_word here
  unfolding top_word
  is_top =
      let total : length (boxes_read here) ≡ box_count here = length-boxes_read here h.falling in
      ext_get_or 0 w (map (λ (b : Box). b.row) (boxes_read here)) (size ∙ sym (length-map (boxes_read here) (λ (b : Box). b.row) ∙ total)) (λ k lt.
      let known = read_at here k h (omega arith) in
      ap (λ i. get_or w i 0) (sym known.place) ∙ (holds_row _ _ known.within ∙ sym (get_or-map (λ (b : Box). b.row) (boxes_read here) k (box 0 0) 0 (omega arith))))

-- ---- the top word

module _ (t : CartanType) (rows : List ℕ) (h : IsShape (tableau_shape t rows)) where
  top_entry : (r c : ℕ) → c < get_or rows r 0 → get_or (top_word (tableau_shape t rows)) (column_place rows r c) 0 ≡ r
  unfolding top_word
  top_entry r c lt =
      let known = placed (tableau_shape t rows) r c h lt in
      let total : length (boxes_read (tableau_shape t rows)) ≡ box_count (tableau_shape t rows) = length-boxes_read (tableau_shape t rows) h.falling in
      get_or-map (λ (b : Box). b.row) (boxes_read (tableau_shape t rows)) (column_place rows r c) (box 0 0) 0 (omega (arith, known.below)) ∙ ap (λ (b : Box). b.row) known.there

  pub top_is_semistandard : IsSemistandard (tableau_shape t rows) (top_word (tableau_shape t rows))
  top_is_semistandard = record {
    rows = λ r c lt. omega (arith, top_entry r c (omega arith), top_entry r (suc c) lt);
    columns = λ r c lt. omega (arith, top_entry r c (row_above rows r (suc r) c h.falling lt (omega arith)), top_entry (suc r) c lt);
  }

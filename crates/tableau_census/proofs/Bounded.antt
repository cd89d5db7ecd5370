-- A reading is semistandard exactly where each digit is within the bounds that the boxes read before it give.
use Rattle.std.proofs.Common.{◌≡◌, ◌∙◌, refl, sym, ap, subst, ℕ, zero, suc, ◌≤◌, ◌<◌, nat_lt, true, false, List, length, get_or, inl, inr, arith}
use Rattle.std.proofs.lemmas.Bool.{cases_lt}
use Rattle.std.proofs.lemmas.Bool.Decides.{nat_tests}
use Rattle.crystal_cartan.specs.Types.{CartanType, coordinates_of}
use Rattle.crystal_cartan.specs.declared.types.Kind.TheVariants.{A}
use Rattle.vector_crystals.specs.Letters.{letter_count, letter_count_of}
use Rattle.tableau_reading.specs.Shapes.{ShapeType, tableau_shape, IsShape, box_count, shape_space}
use Rattle.tensor_words.specs.Codes.{IsWord}
use Rattle.tableau_reading.specs.Readings.{Box, column_place}
use Rattle.tableau_reading.proofs.FilledRows.{digit_of_word}
use Rattle.tableau_census.specs.Semistandard.{entry, IsSemistandard}
use Rattle.tableau_census.specs.Listing.{low_at, bound_at, box_of, low_in, bound_in, IsBounded}
use Rattle.tableau_census.proofs.ShapeWords.{word_from_digits}
use Rattle.tableau_reading.proofs.Boxes.{row_there}
use Rattle.tableau_reading.proofs.Orders.{placed, read_at}
use Rattle.tableau_census.proofs.Neighbours.{place_later, place_lower, row_above, column_below}

-- two words agree before a place
abbrev pub Agree : ℕ → List ℕ → List ℕ → Type 0
Agree k v w = (j : ℕ) → j < k → get_or v j 0 ≡ get_or w j 0

-- a digit is bounded by the digit beneath, or in a column's lowest box by the number of letters
pub bound_beneath : (s : ShapeType) (w : List ℕ) (r c : ℕ) → c < get_or s.rows (suc r) 0 → bound_at s w r c ≡ entry s w (suc r) c
bound_beneath s w r c lt = let test : nat_lt c (get_or s.rows (suc r) 0) ≡ true = grind (arith, nat_tests) in rw test refl

pub bound_lowest : (s : ShapeType) (w : List ℕ) (r c : ℕ) → get_or s.rows (suc r) 0 ≤ c → bound_at s w r c ≡ letter_count s.cartan
bound_lowest s w r c le = let test : nat_lt c (get_or s.rows (suc r) 0) ≡ false = grind (arith, nat_tests) in rw test refl

module _ (t : CartanType) (rows : List ℕ) (h : IsShape (tableau_shape t rows)) where
  abbrev here : ShapeType
  here = tableau_shape t rows

  -- ---- the bounds look at earlier places only

  low_agrees : (v w : List ℕ) (r c : ℕ) → c < get_or rows r 0 → Agree (column_place rows r c) v w → low_at here v r c ≡ low_at here w r c
  low_agrees v w r zero lt same = refl
  low_agrees v w r (suc c) lt same = same (column_place rows r c) (place_later rows r r c (suc c) h.falling (omega arith) (omega arith))

  bound_agrees : (v w : List ℕ) (r c : ℕ) → c < get_or rows r 0 → Agree (column_place rows r c) v w → bound_at here v r c ≡ bound_at here w r c
  bound_agrees v w r c lt same = elim (cases_lt c (get_or rows (suc r) 0)) [
    | inl more ↦
        let first : get_or v (column_place rows (suc r) c) 0 ≡ get_or w (column_place rows (suc r) c) 0 =
        same (column_place rows (suc r) c) (place_lower rows r (suc r) c h.falling more (omega arith)) in
        bound_beneath here v r c more ∙ (first ∙ sym (bound_beneath here w r c more))
    | inr none ↦ bound_lowest here v r c none ∙ sym (bound_lowest here w r c none)
  ]

  pub bounds_agree : (v w : List ℕ) (k : ℕ) → k < box_count here → Agree k v w → (low_in here v k ≡ low_in here w k) × (bound_in here v k ≡ bound_in here w k)
  bounds_agree v w k lt same =
      let known = read_at here k h lt in
      let first : Agree (column_place rows (box_of here k).row (box_of here k).column) v w = λ j less. same j (omega (arith, known.place)) in
      (low_agrees v w (box_of here k).row (box_of here k).column known.within first, bound_agrees v w (box_of here k).row (box_of here k).column known.within first)

  pub bounded_again : (v w : List ℕ) (k : ℕ) → k < box_count here → Agree (suc k) v w → IsBounded here w k → IsBounded here v k
  bounded_again v w k lt same b =
      let bounds = bounds_agree v w k lt (λ j less. same j (omega arith)) in
      record { low = omega (arith, bounds.0, same k (omega arith), b.low); bound = omega (arith, bounds.1, same k (omega arith), b.bound) }

  -- ---- by boxes

  pub record IsBoundedBox (w : List ℕ) (r c : ℕ) : Type 0 where
    pub low : low_at here w r c ≤ entry here w r c
    pub bound : entry here w r c < bound_at here w r c

  box_bounded : (w : List ℕ) (r c : ℕ) → c < get_or rows r 0 → IsBounded here w (column_place rows r c) → IsBoundedBox w r c
  box_bounded w r c lt b =
      let there = (placed here r c h lt).there in
      record {
        low = omega (arith, ap (λ (x : Box). low_at here w x.row x.column) there, b.low);
        bound = omega (arith, ap (λ (x : Box). bound_at here w x.row x.column) there, b.bound);
      }

  place_bounded : (w : List ℕ) (k : ℕ) → k < box_count here → IsBoundedBox w (box_of here k).row (box_of here k).column → IsBounded here w k
  place_bounded w k lt b =
      let digit = ap (λ i. get_or w i 0) (read_at here k h lt).place in
      record { low = omega (arith, digit, b.low); bound = omega (arith, digit, b.bound) }

  -- ---- from a semistandard reading to the bounds

  module _ (w : List ℕ) (word : IsWord (shape_space here) w) (good : IsSemistandard here w) where
    low_fits : (r c : ℕ) → c < get_or rows r 0 → low_at here w r c ≤ entry here w r c
    low_fits r zero lt = omega (arith, column_below t rows h w good 0 r 0 (omega arith) lt)
    low_fits r (suc c) lt = good.rows r c lt

    bound_fits : (r c : ℕ) → c < get_or rows r 0 → entry here w r c < bound_at here w r c
    bound_fits r c lt = elim (cases_lt c (get_or rows (suc r) 0)) [
      | inl more ↦ omega (arith, bound_beneath here w r c more, good.columns r c more)
      | inr none ↦ omega (arith, bound_lowest here w r c none, digit_of_word here w (column_place rows r c) word (placed here r c h lt).below)
    ]

    pub bounded : (k : ℕ) → k < box_count here → IsBounded here w k
    bounded k lt =
        let known = read_at here k h lt in
        place_bounded w k lt (record { low = low_fits (box_of here k).row (box_of here k).column known.within; bound = bound_fits (box_of here k).row (box_of here k).column known.within })

  -- ---- and back

  -- digits that are within their bounds up to a place are those of letters
  module _ (w : List ℕ) (m : ℕ) (le : m ≤ box_count here) (all : (k : ℕ) → k < m → IsBounded here w k) where
    few_letters : (r c : ℕ) → c < get_or rows r 0 → column_place rows r c < m → ((j : ℕ) → j < column_place rows r c → get_or w j 0 < letter_count t) → entry here w r c < letter_count t
    few_letters r c lt early before =
        let b = box_bounded w r c lt (all (column_place rows r c) early) in
        elim (cases_lt c (get_or rows (suc r) 0)) [
          | inl more ↦ omega (arith, b.bound, bound_beneath here w r c more, before (column_place rows (suc r) c) (place_lower rows r (suc r) c h.falling more (omega arith)))
          | inr none ↦ omega (arith, b.bound, bound_lowest here w r c none)
        ]

    few_before : (n k : ℕ) → k < n → k < m → get_or w k 0 < letter_count t
    few_before zero k less lt = absurd (omega arith)
    few_before (suc n) k less lt =
        let known = read_at here k h (omega arith) in
        let digit : get_or w (column_place rows (box_of here k).row (box_of here k).column) 0 ≡ get_or w k 0 = ap (λ i. get_or w i 0) known.place in
        let small = few_letters (box_of here k).row (box_of here k).column known.within (omega (arith, known.place))
        (λ j early. few_before n j (omega (arith, known.place)) (omega (arith, known.place))) in
        omega (arith, small, digit)

    pub few : (k : ℕ) → k < m → get_or w k 0 < letter_count t
    few k lt = few_before (suc k) k (omega arith) lt

  module _ (w : List ℕ) (size : length w ≡ box_count here) (all : (k : ℕ) → k < box_count here → IsBounded here w k) where
    pub bounded_is_word : IsWord (shape_space here) w
    bounded_is_word = word_from_digits here w size (few w (box_count here) (omega arith) all)

    pub bounded_is_semistandard : IsSemistandard here w
    bounded_is_semistandard = record {
      rows = λ r c lt. (box_bounded w r (suc c) lt (all (column_place rows r (suc c)) (placed here r (suc c) h lt).below)).low;
      columns = λ r c lt.
          let there : c < get_or rows r 0 = row_above rows r (suc r) c h.falling lt (omega arith) in
          omega (arith, (box_bounded w r c there (all (column_place rows r c) (placed here r c h there).below)).bound, bound_beneath here w r c lt);
    }

  -- ---- no beginning is in vain

  module _ (kind : t.kind ≡ A) (w : List ℕ) (m : ℕ) (le : m ≤ box_count here) (all : (k : ℕ) → k < m → IsBounded here w k) where
    at_box : (r c : ℕ) → c < get_or rows r 0 → column_place rows r c < m → IsBoundedBox w r c
    at_box r c lt early = box_bounded w r c lt (all (column_place rows r c) early)

    room_first : (r : ℕ) → 0 < get_or rows r 0 → column_place rows r 0 ≡ m → low_at here w r 0 < bound_at here w r 0
    room_first r lt at = elim (cases_lt 0 (get_or rows (suc r) 0)) [
      | inl more ↦
          let earlier = place_lower rows r (suc r) 0 h.falling more (omega arith) in
          omega (arith, bound_beneath here w r 0 more, (at_box (suc r) 0 more (omega arith)).low)
      | inr none ↦
          let letters : letter_count t ≡ coordinates_of t.kind t.rank = subst (λ k. letter_count_of k t.rank ≡ coordinates_of k t.rank) (sym kind) (omega arith) in
          omega (arith, bound_lowest here w r 0 none, row_there rows r 0 lt, h.low, letters)
    ]

    room_later : (r c : ℕ) → suc c < get_or rows r 0 → column_place rows r (suc c) ≡ m → low_at here w r (suc c) < bound_at here w r (suc c)
    room_later r c lt at =
        let left : c < get_or rows r 0 = omega arith in
        let earlier = place_later rows r r c (suc c) h.falling left (omega arith) in
        elim (cases_lt (suc c) (get_or rows (suc r) 0)) [
          | inl more ↦
              let lower : c < get_or rows (suc r) 0 = omega arith in
              let under = place_lower rows r (suc r) (suc c) h.falling more (omega arith) in
              omega (arith, bound_beneath here w r (suc c) more, (at_box (suc r) (suc c) more (omega arith)).low, (at_box r c left (omega arith)).bound, bound_beneath here w r c lower)
          | inr none ↦ omega (arith, bound_lowest here w r (suc c) none, few w m le all (column_place rows r c) (omega arith))
        ]

    room_at : (r c : ℕ) → c < get_or rows r 0 → column_place rows r c ≡ m → low_at here w r c < bound_at here w r c
    room_at r zero lt at = room_first r lt at
    room_at r (suc c) lt at = room_later r c lt at

    -- some digit is within the bounds of the next place
    pub room : m < box_count here → low_in here w m < bound_in here w m
    room lt =
        let known = read_at here m h lt in
        room_at (box_of here m).row (box_of here m).column known.within known.place

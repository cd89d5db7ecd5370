-- The arrows of a table turned around, one after another.
use Rattle.std.proofs.Common.{◌≡◌, ◌∙◌, sym, ap, ℕ, ◌+◌, ◌*◌, ◌<◌, ◌≤◌, ◌≢◌, inl, inr, List, length, get_or, slice_set, replicate, arith}
use Rattle.std.proofs.Math.Nat.{mul-le-mul_right}
use Rattle.std.proofs.lemmas.Bool.{cases_lt, cases_eq}
use Rattle.std.proofs.lemmas.List.{get_or-set_other, get_or-set_same, length-set, get_or-replicate, length-replicate}
use Rattle.canonical_graph.specs.Turning.{AreArrows, LeadsBack, AreTurned}
use Rattle.list_facts.proofs.Numbers.{in_row}

-- a place of a table has one row and one index
same_row : (r a b i j : ℕ) → i < r → j < r → a * r + i ≡ b * r + j → a ≡ b
same_row r a b i j low high same = elim (cases_lt a b) [
  | inl before ↦ let rows : (a + 1) * r ≤ b * r = mul-le-mul_right r (omega arith) in absurd (omega (arith, rows))
  | inr over ↦ elim (cases_lt b a) [
    | inl after ↦ let rows : (b + 1) * r ≤ a * r = mul-le-mul_right r (omega arith) in absurd (omega (arith, rows))
    | inr under ↦ omega arith
  ]
]

same_index : (r a b i j : ℕ) → i < r → j < r → a * r + i ≡ b * r + j → i ≡ j
same_index r a b i j low high same =
    let row : a ≡ b = same_row r a b i j low high same in
    let rows : a * r ≡ b * r = ap (λ k. k * r) row in
    omega arith

pub none_turned : (r n : ℕ) (entries back : List ℕ) → length entries ≡ n * r → back ≡ replicate (length entries) 4294967295 → AreTurned r n (0 * r) entries back
none_turned r n entries back size is = record {
  size = ap (λ (xs : List ℕ). length xs) is ∙ length-replicate (length entries) 4294967295 ∙ size;
  all = λ k j t low within there before leads. absurd (omega (arith, before));
  only = λ t j low within.
      inl (ap (λ (xs : List ℕ). get_or xs (t * r + j) 0) is ∙ get_or-replicate {A = ℕ} (length entries) (t * r + j) 4294967295 0 (omega (arith, size, in_row t n r j low within)));
}

-- one more arrow
pub turn_one : (r n m k j t : ℕ) (entries back : List ℕ) → m ≡ k * r + j → k < n → j < r → t ≡ get_or entries m 0 → t < n → AreArrows r n entries
    → AreTurned r n m entries back → AreTurned r n (m + 1) entries (slice_set back (t * r + j) k)
turn_one r n m k j t entries back at low within leads there arrows before = record {
  size = length-set back (t * r + j) k ∙ before.size;
  all = all;
  only = only;
}
  where
    here : get_or entries (k * r + j) 0 ≡ t
    here = ap (λ i. get_or entries i 0) (sym at) ∙ sym leads

    place : t * r + j < length back
    place = omega (arith, before.size, in_row t n r j there within)

    all : (l i u : ℕ) → l < n → i < r → u < n → l * r + i < m + 1 → get_or entries (l * r + i) 0 ≡ u → get_or (slice_set back (t * r + j) k) (u * r + i) 0 ≡ l
    all l i u lower inside under first to = elim (cases_lt (l * r + i) m) [
      | inl old ↦
          let apart : u * r + i ≢ t * r + j = λ same.
          let row : u ≡ t = same_row r u t i j inside within same in
          let index : i ≡ j = same_index r u t i j inside within same in
          let moved : get_or entries (l * r + j) 0 ≡ t = ap (λ x. get_or entries (l * r + x) 0) (sym index) ∙ to ∙ row in
          let one : l ≡ k = arrows.apart l k j lower low within (omega (arith, moved, there)) (moved ∙ sym here) in
          let rows : l * r ≡ k * r = ap (λ x. x * r) one in
          omega (arith, rows, index, old, at) in
          get_or-set_other back (t * r + j) (u * r + i) k 0 apart ∙ before.all l i u lower inside under old to
      | inr new ↦
          let same : l * r + i ≡ k * r + j = omega arith in
          let row : l ≡ k = same_row r l k i j inside within same in
          let index : i ≡ j = same_index r l k i j inside within same in
          let target : u ≡ t = sym to ∙ ap (λ x. get_or entries x 0) same ∙ here in
          rw (target, index, row) (get_or-set_same back (t * r + j) k 0 place)
    ]

    old_only : (u i : ℕ) → LeadsBack r m entries u i (get_or back (u * r + i) 0) → LeadsBack r (m + 1) entries u i (get_or back (u * r + i) 0)
    old_only u i (inl none) = inl none
    old_only u i (inr (below, is)) = inr (omega (arith, below), is)

    only : (u i : ℕ) → u < n → i < r → LeadsBack r (m + 1) entries u i (get_or (slice_set back (t * r + j) k) (u * r + i) 0)
    only u i under inside = elim (cases_eq (u * r + i) (t * r + j)) [
      | inl same ↦
          let row : u ≡ t = same_row r u t i j inside within same in
          let index : i ≡ j = same_index r u t i j inside within same in
          rw (row, index, get_or-set_same back (t * r + j) k 0 place) (inr (omega (arith, at), here))
      | inr other ↦ rw (get_or-set_other back (t * r + j) (u * r + i) k 0 other) (old_only u i (before.only u i under inside))
    ]

-- an entry that leads nowhere
pub turn_none : (r n m k j t : ℕ) (entries back : List ℕ) → m ≡ k * r + j → j < r → t ≡ get_or entries m 0 → t ≡ 4294967295 → AreArrows r n entries
    → AreTurned r n m entries back → AreTurned r n (m + 1) entries back
turn_none r n m k j t entries back at within leads none arrows before = record { size = before.size; all = all; only = λ u i under inside. more u i (before.only u i under inside) }
  where
    all : (l i u : ℕ) → l < n → i < r → u < n → l * r + i < m + 1 → get_or entries (l * r + i) 0 ≡ u → get_or back (u * r + i) 0 ≡ l
    all l i u lower inside under first to = elim (cases_lt (l * r + i) m) [
      | inl old ↦ before.all l i u lower inside under old to
      | inr new ↦
          let same : l * r + i ≡ m = omega arith in
          let target : u ≡ t = sym to ∙ ap (λ x. get_or entries x 0) same ∙ sym leads in
          absurd (omega (arith, target, none, under, arrows.few))
    ]

    more : (u i : ℕ) → LeadsBack r m entries u i (get_or back (u * r + i) 0) → LeadsBack r (m + 1) entries u i (get_or back (u * r + i) 0)
    more u i (inl nowhere) = inl nowhere
    more u i (inr (below, is)) = inr (omega (arith, below), is)

-- Marks: the raising operators that lead back to a code from which the code was lowered.
use Rattle.std.proofs.Common.{◌≡◌, ◌∙◌, refl, sym, ap, subst, ℕ, zero, suc, ◌+◌, ◌-◌, ◌<◌, ◌==◌, ◌⊎◌, inl, inr, Bool, true, false, if◌then◌else◌, List, [], ◌∷◌, ◌++◌, length, get_or, slice_set, replicate, None, Some, Contains, arith}
use Rattle.std.proofs.lemmas.Bool.{cases_lt, cases_eq}
use Rattle.std.proofs.lemmas.List.{get_or_append_left, get_or-append_right, length-append, get_or-set_other, get_or-set_same, length-set, length-replicate, get_or-replicate, get_or_past}
use Rattle.crystal_cartan.specs.Types.{HasIndex}
use Rattle.tensor_words.specs.Spaces.{SpaceType, IsSpace, size}
use Rattle.tensor_words.specs.Operators.{op}
use Rattle.canonical_graph.specs.Tables.{arrow_to}
use Rattle.plain_growth.specs.Growth.{IsNote, noted_in}
use Rattle.plain_growth.specs.Marks.{IsMarked, marked_in, GrowsMarks, AreMarks}
use Rattle.plain_growth.proofs.Expanding.{still_in}
use Rattle.canonical_graph.proofs.Raising.{raised_from_lowered}

-- a mark stands at a code that has marks
marked_within : (marks : List (List Bool)) (k j : ℕ) → IsMarked marks k j → k < length marks
marked_within marks k j is = elim (cases_lt k (length marks)) [
  | inl below ↦ below
  | inr over ↦
      let none : get_or (get_or marks k []) j false ≡ false = ap (λ (xs : List Bool). get_or xs j false) (get_or_past marks k [] over) in
      cc
]

pub grows_none : (marks : List (List Bool)) (count : ℕ) → length marks ≡ count → GrowsMarks marks marks count
grows_none marks count size = record { size = size; only = λ k j is. is }

last_row : (row : List Bool) → ((j : ℕ) → get_or row j false ≡ false) → (m j : ℕ) → get_or (get_or (row ∷ []) m []) j false ≡ false
last_row row none zero j = none j
last_row row none (suc m) j = refl

pub grows_one : (marks new : List (List Bool)) (row : List Bool) (count : ℕ) → new ≡ marks ++ row ∷ [] → length marks + 1 ≡ count
    → ((j : ℕ) → get_or row j false ≡ false) → GrowsMarks marks new count
grows_one marks new row count is size none = record {
  size = ap (λ (xs : List (List Bool)). length xs) is ∙ length-append marks (row ∷ []) ∙ size;
  only = λ k j marked. elim (cases_lt k (length marks)) [
    | inl below ↦ sym (ap (λ (xs : List Bool). get_or xs j false) (at k ∙ get_or_append_left marks (row ∷ []) [] k below)) ∙ marked
    | inr over ↦
        let last : get_or (get_or new k []) j false ≡ false =
        ap (λ (xs : List Bool). get_or xs j false) (at k ∙ get_or-append_right marks (row ∷ []) (length marks) k [] refl over) ∙ last_row row none (k - length marks) j in
        cc
  ];
}
  where
    at : (k : ℕ) → get_or new k [] ≡ get_or (marks ++ row ∷ []) k []
    at k = ap (λ (xs : List (List Bool)). get_or xs k []) is

pub marks_grown : (s : SpaceType) (found more new : List ℕ) (marks later : List (List Bool)) → new ≡ found ++ more → AreMarks s found marks
    → GrowsMarks marks later (length new) → AreMarks s new later
marks_grown s found more new marks later grown have g = record { size = g.size; known = known }
  where
    known : (k i c : ℕ) → k < length new → HasIndex s.cartan i → IsMarked later k (i - 1) → op s (arrow_to false i) (get_or new k 0) ≡ Some c → Contains new c
    known k i c lt index marked leads =
        let before : IsMarked marks k (i - 1) = g.only k (i - 1) marked in
        let below : k < length found = omega (arith, marked_within marks k (i - 1) before, have.size) in
        let same : get_or new k 0 ≡ get_or found k 0 = ap (λ (xs : List ℕ). get_or xs k 0) grown ∙ get_or_append_left found more 0 k below in
        still_in found more new c grown (have.known k i c below index before (rw same at leads))

-- a mark that is set, or one from before
mark_cases : (marks : List (List Bool)) (p j k i : ℕ) → p < length marks → IsMarked (slice_set marks p (slice_set (get_or marks p []) j true)) k i
    → ((k ≡ p) × (i ≡ j)) ⊎ IsMarked marks k i
mark_cases marks p j k i lt marked = elim (cases_eq k p) [
  | inl same ↦ elim (cases_eq i j) [
    | inl index ↦ inl (same, index)
    | inr other ↦
        let row : get_or (slice_set marks p (slice_set (get_or marks p []) j true)) k [] ≡ slice_set (get_or marks p []) j true =
        ap (λ x. get_or (slice_set marks p (slice_set (get_or marks p []) j true)) x []) same ∙ get_or-set_same marks p (slice_set (get_or marks p []) j true) [] lt in
        let old : get_or (slice_set (get_or marks p []) j true) i false ≡ get_or (get_or marks p []) i false = get_or-set_other (get_or marks p []) j i true false other in
        inr (ap (λ x. get_or (get_or marks x []) i false) same ∙ sym old ∙ sym (ap (λ (xs : List Bool). get_or xs i false) row) ∙ marked)
  ]
  | inr other ↦ inr (sym (ap (λ (xs : List Bool). get_or xs i false) (get_or-set_other marks p k (slice_set (get_or marks p []) j true) [] other)) ∙ marked)
]

-- what a lowering operator leads to is marked
pub marks_noted : (s : SpaceType) (i j code note : ℕ) (found : List ℕ) (marks : List (List Bool)) → IsSpace s → HasIndex s.cartan i → j ≡ i - 1 → code < size s
    → Contains found code → IsNote (length found) note → noted_in found note ≡ op s (arrow_to true i) code → AreMarks s found marks
    → AreMarks s found (marked_in marks note j)
marks_noted s i j code note found marks space index place below there (inl none) leads have = rw none have
marks_noted s i j code note found marks space index place below there (inr lt) leads have =
    by (note == 4294967295) (λ isnt. leads_at isnt)
  where
    leads_at : (note == 4294967295) ≡ false → op s (arrow_to true i) code ≡ Some (get_or found note 0)
    leads_at isnt = sym leads ∙ ap (λ b. if b then None else Some (get_or found note 0)) isnt

    set_marks : List (List Bool)
    set_marks = slice_set marks note (slice_set (get_or marks note []) j true)

    by : (b : Bool) → (b ≡ false → op s (arrow_to true i) code ≡ Some (get_or found note 0)) → AreMarks s found (if b then marks else slice_set marks note (slice_set (get_or marks note []) j true))
    by true to = have
    by false to = record { size = length-set marks note (slice_set (get_or marks note []) j true) ∙ have.size; known = known }
      where
        known : (k h c : ℕ) → k < length found → HasIndex s.cartan h → IsMarked (slice_set marks note (slice_set (get_or marks note []) j true)) k (h - 1)
            → op s (arrow_to false h) (get_or found k 0) ≡ Some c → Contains found c
        known k h c within fits marked raises = elim (mark_cases marks note j k (h - 1) (omega (arith, have.size, lt)) marked) [
          | inl (row, column) ↦
              let same : h ≡ i = omega (arith, column, place, fits.low, index.low) in
              let back : op s (arrow_to false i) (get_or found note 0) ≡ Some code = raised_from_lowered s i code (get_or found note 0) space index below (to refl) in
              let again : op s (arrow_to false i) (get_or found note 0) ≡ Some c = rw (same, row) at raises in
              let one : code ≡ c = cc in
              subst (λ x. Contains found x) one there
          | inr before ↦ have.known k h c within fits before raises
        ]

-- no marks at first
pub no_marks : (s : SpaceType) (found : List ℕ) (marks : List (List Bool)) (n : ℕ) (row : List Bool) → marks ≡ replicate n row → n ≡ length found
    → ((j : ℕ) → get_or row j false ≡ false) → AreMarks s found marks
no_marks s found marks n row is all none = record {
  size = ap (λ (xs : List (List Bool)). length xs) is ∙ length-replicate n row ∙ all;
  known = λ k i c lt index marked leads.
      let at : get_or marks k [] ≡ row = ap (λ (xs : List (List Bool)). get_or xs k []) is ∙ get_or-replicate n k row [] (omega (arith, all, lt)) in
      let here : get_or (get_or marks k []) (i - 1) false ≡ false = ap (λ (xs : List Bool). get_or xs (i - 1) false) at ∙ none (i - 1) in
      cc;
}

pub unmarked_row : (j : ℕ) → get_or (replicate 8 false) j false ≡ false
unmarked_row j = elim (cases_lt j 8) [
  | inl below ↦ get_or-replicate 8 j false false below
  | inr over ↦ get_or_past (replicate 8 false) j false (omega (arith, over, length-replicate 8 false))
]

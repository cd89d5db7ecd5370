-- The search for a pair along its path, in one state, by the words of the table.
use Rattle.std.proofs.Common.{◌≡◌, ◌≢◌, sym, ap, subst, ◌∙◌, ℕ, ◌+◌, ◌-◌, ◌<◌, ◌≤◌, ◌⊎◌, inl, inr, true, List, ◌++◌, length, Some, None, Contains, length-append, arith}
use Rattle.std.proofs.lemmas.List.Elements.{Contains-append_left, Contains-append_right}
use Rattle.graph_history.specs.History.{Vertex, State, vertex_at, HasVertex, HasSome, IsNew}
use Rattle.graph_history.proofs.Histories.{one_code}
use Rattle.graph_history.proofs.VertexLists.{keys, length-keys, vertex_in, has_key}
use Rattle.graph_rule.proofs.Paths.{less_or, cell_below, last_place, path_filled}
use Rattle.wide_words.specs.declared.spaces.WideCode.{WideCode}
use Rattle.wide_words.specs.WideSpaces.{IsWide, number}
use Rattle.wide_words.specs.WideHistory.{WideWorldType, flat}
use Rattle.wide_rule.specs.Layout.{cell_count, first_word, pair_of, mixed, cell_on, is_last, IsLaid, IsPlaced, IsPassed, IsSearched, HasSeen}
use Rattle.wide_rule.specs.Rule.{IsTrue}
use Rattle.wide_rule.specs.declared.dues.Seen.{Seen}
use Rattle.wide_rule.proofs.Pairs.{high_number, pair_number}

pub path_below : (w : WideWorldType) (x : WideCode) (k : ℕ) → cell_on w x k < cell_count w
path_below w x k = cell_below (flat w) (mixed x) k (omega arith)

module _ (w : WideWorldType) (words : List ℕ) (s : State) (laid : IsLaid w words s) (x : WideCode) (is : IsWide w.space x) where
  abbrev num : ℕ
  num = number w.space x

  -- the first word of the pair's own vertex
  pub own_first : (c : ℕ) → HasVertex s c num → first_word words c ≡ x.high + 1
  own_first c there = laid.highs c num there ∙ ap (λ (n : ℕ). n + 1) (high_number w x is)

  -- the search passes a cell, by its words
  abbrev pub Passes : ℕ → Type 0
  Passes d = (first_word words d ≢ 0) × ((first_word words d ≢ x.high + 1) ⊎ ((y : ℕ) × HasVertex s d y × (y ≢ num)))

  -- the cell stands on the pair's path, and every cell before it is passed
  pub record Searches (c : ℕ) : Type 0 where
    pub steps : ℕ
    pub short : steps < cell_count w
    pub at : c ≡ cell_on w x steps
    pub before : (k : ℕ) → k < steps → Passes (cell_on w x k)

  pub passes : (seen : List Seen) → ((c n : ℕ) → HasSeen seen c n → IsTrue w words c n) → (d : ℕ) → IsPassed w s seen x d → Passes d
  passes seen true_ d (inl (n, has, other)) =
      let t = true_ d n has in
      ((λ z. t.2 (sym t.1 ∙ z)), inl (λ z. other (sym t.1 ∙ z)))
  passes seen true_ d (inr (y, there, other)) =
      let e = laid.highs d y there in
      ((λ z. omega arith), inr (y, there, other))

  pub searches : (seen : List Seen) → ((c n : ℕ) → HasSeen seen c n → IsTrue w words c n) → (c : ℕ) → IsSearched w s seen x c → Searches c
  searches seen true_ c q = record { steps = q.steps; short = q.short; at = q.at; before = λ k less. passes seen true_ (cell_on w x k) (q.before k less) }

  -- a passed cell does not have the pair's vertex
  pub passed_other : (d : ℕ) → Passes d → HasVertex s d num → ⊥
  passed_other d (some, inl other) there = other (own_first d there)
  passed_other d (some, inr (y, here, other)) there = other (one_code s d y num here there)

  -- the cell is free for the pair: it is empty, or it has the first half alone
  abbrev pub IsFree : ℕ → Type 0
  IsFree c = (first_word words c ≡ 0) ⊎ ((first_word words c ≡ x.high + 1) × (vertex_at s.vertices c ≡ None))

  free_none : (c : ℕ) → IsFree c → vertex_at s.vertices c ≡ Some num → ⊥
  free_none c (inl empty) there = let e = own_first c there in omega arith
  free_none c (inr half) there = let none = half.1 in cc

  module _ (placed : (c y : ℕ) → HasVertex s c y → IsPlaced w words s (pair_of w y) c) where
    own_place : (d : ℕ) → HasVertex s d num → IsPlaced w words s x d
    own_place d there = subst (λ (z : WideCode). IsPlaced w words s z d) (pair_number w x is) (placed d num there)

    module _ (c : ℕ) (q : Searches c) where
      not_before : (d : ℕ) → HasVertex s d num → (p : IsPlaced w words s x d) → p.steps < q.steps → ⊥
      not_before d there p less = passed_other (cell_on w x p.steps) (q.before p.steps less) (subst (λ (e : ℕ). HasVertex s e num) p.at there)

      -- a cell that is free for the pair shows that it is new
      pub new_at : IsFree c → IsNew s num
      new_at free d there = by (less_or p.steps q.steps)
        where
          p : IsPlaced w words s x d
          p = own_place d there

          no_half : IsFree c → q.steps < p.steps → ⊥
          no_half (inl empty) less = p.taken q.steps less (ap (first_word words) (sym q.at) ∙ empty)
          no_half (inr half) less =
              let has = p.filled q.steps less (ap (first_word words) (sym q.at) ∙ half.0) in
              let some : vertex_at s.vertices c ≡ Some has.0 = ap (vertex_at s.vertices) q.at ∙ has.1 in
              let none = half.1 in cc

          by : (p.steps < q.steps) ⊎ ((p.steps ≡ q.steps) ⊎ (q.steps < p.steps)) → ⊥
          by (inl less) = not_before d there p less
          by (inr (inl same)) =
              let cell : d ≡ c = p.at ∙ ap (cell_on w x) same ∙ sym q.at in
              free_none c free (subst (λ (e : ℕ). HasVertex s e num) cell there)
          by (inr (inr less)) = no_half free less

      -- so does the last cell, where it is passed too
      pub new_end : Passes c → is_last w x c ≡ true → IsNew s num
      new_end here last d there = by (less_or p.steps q.steps)
        where
          p : IsPlaced w words s x d
          p = own_place d there

          by : (p.steps < q.steps) ⊎ ((p.steps ≡ q.steps) ⊎ (q.steps < p.steps)) → ⊥
          by (inl less) = not_before d there p less
          by (inr (inl same)) =
              let cell : d ≡ c = p.at ∙ ap (cell_on w x) same ∙ sym q.at in
              passed_other c here (subst (λ (e : ℕ). HasVertex s e num) cell there)
          by (inr (inr less)) = let end = last_place (flat w) (mixed x) q.steps c q.short q.at last in let short = p.short in omega arith

  -- where all cells of the path are passed, every cell has a first word. Each has a vertex, or is one of a list of others
  module _ (c : ℕ) (q : Searches c) (others : List ℕ) (alone : (d : ℕ) → d < cell_count w → first_word words d ≢ 0 → HasSome s d ⊎ Contains others d) where
    abbrev cell : Vertex → ℕ
    cell u = u.cell

    abbrev taken_cells : List ℕ
    taken_cells = keys cell s.vertices ++ others

    in_taken : (e : ℕ) → HasSome s e ⊎ Contains others e → Contains taken_cells e
    in_taken e (inl some) =
        let place = vertex_in s.vertices e some.0 some.1 in
        Contains-append_left (keys cell s.vertices) others e (has_key cell s.vertices place.0 (record { cell = e; code = some.0 }) place.1)
    in_taken e (inr has) = Contains-append_right (keys cell s.vertices) others e has

    each_passed : (k : ℕ) → Passes c → k < q.steps + 1 → Passes (cell_on w x k)
    each_passed k here less =
        elim (less_or k q.steps) [
          | inl before ↦ q.before k before
          | inr rest ↦ elim rest [
            | inl same ↦ subst Passes (q.at ∙ sym (ap (cell_on w x) same)) here
            | inr after ↦ absurd (omega arith)
          ]
        ]

    pub full_end : Passes c → is_last w x c ≡ true → (placed : (d y : ℕ) → HasVertex s d y → IsPlaced w words s (pair_of w y) d) → cell_count w ≤ length s.vertices + length others
    full_end here last placed =
        let end = last_place (flat w) (mixed x) q.steps c q.short q.at last in
        let few = path_filled (flat w) (mixed x) taken_cells
        (λ k below. let passed = each_passed k here (omega arith) in in_taken (cell_on w x k) (alone (cell_on w x k) (path_below w x k) passed.0)) in
        omega (arith, length-keys cell s.vertices, length-append (keys cell s.vertices) others)

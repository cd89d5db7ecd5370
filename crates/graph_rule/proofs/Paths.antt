-- The search for a code along its path, in one state.
use Rattle.std.proofs.Common.{◌≡◌, ◌≢◌, refl, sym, ap, subst, ◌∙◌, ℕ, zero, suc, ◌+◌, ◌-◌, ◌%◌, ◌*◌, ◌/◌, ◌^◌, ◌<◌, ◌≤◌, ◌⊎◌, inl, inr, true, nat_eq, eqb-true, add-zero, List, [], ◌∷◌, ◌++◌, length, Option, Some, None, Contains, arith}
use Rattle.std.proofs.Math.Nat.{mod-add-mod}
use Rattle.std.specs.List.{list_any, IsDistinct}
use Rattle.std.proofs.lemmas.Cmp.{nat_eq_equiv}
use Rattle.std.proofs.lemmas.Grind.{common_steps}
use Rattle.std.proofs.lemmas.List.Elements.{Contains-push_cases}
use Rattle.std.proofs.lemmas.Map.Made.{length-le_from_is_member}
use Rattle.std.proofs.lemmas.Map.Views.{Contains-from_any, list_any-from_Contains}
use Rattle.atomic_table.proofs.Lists.{one_turn}
use Rattle.tensor_words.specs.Worlds.{WorldType}
use Rattle.graph_history.specs.History.{Vertex, State, vertex_at, HasVertex, HasSome, IsNew}
use Rattle.graph_history.specs.Laws.{Stays}
use Rattle.graph_history.proofs.Histories.{one_code}
use Rattle.graph_history.proofs.VertexLists.{keys, length-keys, vertex_in, has_key}
use Rattle.graph_rule.specs.Layout.{code_word, home, cell_on, is_last, IsPlaced, IsSearched}
use Rattle.graph_history.proofs.CellLists.{distinct_push}

-- the word of a cell and its vertex
pub word_none : (o : Option ℕ) → code_word o ≡ 0 → o ≡ None
word_none None e = refl
word_none (Some x) e = absurd (omega arith)

pub word_some : (o : Option ℕ) (x : ℕ) → code_word o ≡ x + 1 → o ≡ Some x
word_some None x e = absurd (omega arith)
word_some (Some y) x e = let same : y ≡ x = omega arith in ap (λ (z : ℕ). Some z) same

pub word_other : (o : Option ℕ) (x : ℕ) → code_word o ≢ 0 → code_word o ≢ x + 1 → (y : ℕ) × (o ≡ Some y) × (y ≢ x)
word_other None x p q = absurd (p refl)
word_other (Some y) x p q = (y, refl, λ e. q (ap (λ (z : ℕ). z + 1) e))

-- of two numbers one is less, or they are one
pub less_or : (i j : ℕ) → (i < j) ⊎ ((i ≡ j) ⊎ (j < i))
less_or i j = grind arith

-- a path begins at its home
pub home_first : (cells x : ℕ) → 0 < cells → home cells x ≡ (home cells x + 0) % cells
unfolding home
home_first cells x some_cell = sym (twice_in (((x * 11400714819323198485) % 2 ^ 64) / 2 ^ 32) cells)
  where
    twice_in : (a n : ℕ) → (a % n + 0) % n ≡ a % n
    twice_in a n = mod-add-mod a n 0 ∙ ap (λ (m : ℕ). m % n) (add-zero a)

module _ (w : WorldType) where
  pub cell_below : (x k : ℕ) → 0 < w.cells → cell_on w x k < w.cells
  cell_below x k some = omega arith

  -- the cells of a path are different
  pub one_place : (x i j : ℕ) → i < w.cells → j < w.cells → cell_on w x i ≡ cell_on w x j → i ≡ j
  one_place x i j low high e = by (less_or i j)
    where
      start : ℕ
      start = home w.cells x

      by : (i < j) ⊎ ((i ≡ j) ⊎ (j < i)) → i ≡ j
      by (inl less) = let same = one_turn (start + i) (start + j) w.cells (omega arith) (omega arith) e in omega arith
      by (inr (inl same)) = same
      by (inr (inr less)) = let same = one_turn (start + j) (start + i) w.cells (omega arith) (omega arith) (sym e) in omega arith

  -- the last cell of a path stands at its last place
  pub last_place : (x k c : ℕ) → k < w.cells → c ≡ cell_on w x k → is_last w x c ≡ true → k + 1 ≡ w.cells
  last_place x k c short at last =
      let end : c ≡ cell_on w x (w.cells - 1) = eqb-true c (cell_on w x (w.cells - 1)) last in
      let same = one_place x k (w.cells - 1) short (omega arith) (sym at ∙ end) in omega arith

  module _ (x : ℕ) where
    -- so many cells of a path
    abbrev path : ℕ → List ℕ
    path zero = []
    path (suc k) = path k ++ cell_on w x k ∷ []

    path_long : (k : ℕ) → length (path k) ≡ k
    path_long zero = refl
    path_long (suc k) = grind (arith, common_steps, path_long k)

    on_path : (k e : ℕ) → Contains (path k) e → (j : ℕ) × (j < k) × (e ≡ cell_on w x j)
    on_path zero e (j, below, is) = absurd (omega arith)
    on_path (suc k) e has =
        elim (Contains-push_cases (path k) (cell_on w x k) e has) [
          | inl before ↦ let r = on_path k e before in (r.0, omega (arith, r.1), r.2)
          | inr here ↦ (k, omega arith, sym here)
        ]

    path_apart : (k : ℕ) → k ≤ w.cells → IsDistinct nat_eq (path k)
    unfolding IsDistinct
    path_apart zero short = tt
    path_apart (suc k) short =
        distinct_push (path k) (cell_on w x k) (path_apart k (omega arith))
        (λ has. let r = on_path k (cell_on w x k) has in let same = one_place x k r.0 (omega arith) (omega (arith, r.1)) r.2 in omega (arith, r.1))

    -- a list that has every cell of a path is as long as there are cells
    pub path_filled : (l : List ℕ) → ((k : ℕ) → k < w.cells → Contains l (cell_on w x k)) → w.cells ≤ length l
    path_filled l has_each =
        let some : (e : ℕ) → list_any (nat_eq e) (path w.cells) ≡ true → list_any (nat_eq e) l ≡ true =
        λ e has. let r = on_path w.cells e (Contains-from_any eqb-true e (path w.cells) has) in
        list_any-from_Contains nat_eq_equiv e l (subst (Contains l) (sym r.2) (has_each r.0 r.1)) in
        let few = length-le_from_is_member nat_eq_equiv (path w.cells) l (path_apart w.cells (omega arith)) some in
        omega (arith, path_long w.cells)

  abbrev pub searched_stays : (s t : State) (c x : ℕ) → Stays s t → IsSearched w s c x → IsSearched w t c x
  searched_stays s t c x stays q = record {
    steps = q.steps;
    short = q.short;
    at = q.at;
    before = λ k less. let b = q.before k less in (b.0, stays.vertices (cell_on w x k) b.0 b.1, b.2);
  }

  pub placed_stays : (s t : State) (c x : ℕ) → Stays s t → IsPlaced w s c x → IsPlaced w t c x
  placed_stays s t c x stays p = record {
    steps = p.steps;
    short = p.short;
    at = p.at;
    before = λ k less. let b = p.before k less in (b.0, stays.vertices (cell_on w x k) b.0 b.1);
  }

  module _ (s : State) (c x : ℕ) (q : IsSearched w s c x) (placed : (d y : ℕ) → HasVertex s d y → IsPlaced w s d y) where
    -- no vertex with the code stands before the cell
    not_before : (d : ℕ) → HasVertex s d x → (p : IsPlaced w s d x) → p.steps < q.steps → ⊥
    not_before d there p less =
        let b = q.before p.steps less in
        let same = subst (λ (e : ℕ). HasVertex s e x) p.at there in b.2 (one_code s (cell_on w x p.steps) b.0 x b.1 same)

    -- an empty cell shows that the code is new
    pub new_at_empty : vertex_at s.vertices c ≡ None → IsNew s x
    new_at_empty empty d there = by (less_or p.steps q.steps)
      where
        p : IsPlaced w s d x
        p = placed d x there

        by : (p.steps < q.steps) ⊎ ((p.steps ≡ q.steps) ⊎ (q.steps < p.steps)) → ⊥
        by (inl less) = not_before d there p less
        by (inr (inl same)) =
            let cell : d ≡ c = p.at ∙ ap (cell_on w x) same ∙ sym q.at in
            let none : vertex_at s.vertices d ≡ None = ap (vertex_at s.vertices) cell ∙ empty in cc
        by (inr (inr less)) =
            let b = p.before q.steps less in
            let some : vertex_at s.vertices c ≡ Some b.0 = ap (vertex_at s.vertices) q.at ∙ b.1 in cc

    -- so does another code at the last cell
    pub new_at_last : (y : ℕ) → HasVertex s c y → y ≢ x → is_last w x c ≡ true → IsNew s x
    new_at_last y here other last d there = by (less_or p.steps q.steps)
      where
        p : IsPlaced w s d x
        p = placed d x there

        by : (p.steps < q.steps) ⊎ ((p.steps ≡ q.steps) ⊎ (q.steps < p.steps)) → ⊥
        by (inl less) = not_before d there p less
        by (inr (inl same)) =
            let cell : d ≡ c = p.at ∙ ap (cell_on w x) same ∙ sym q.at in
            other (one_code s c y x here (subst (λ (e : ℕ). HasVertex s e x) cell there))
        by (inr (inr less)) = let end = last_place x q.steps c q.short q.at last in let short = p.short in omega arith

    -- there every cell is taken
    abbrev cell : Vertex → ℕ
    cell u = u.cell

    taken : (e : ℕ) → HasSome s e → Contains (keys cell s.vertices) e
    taken e some =
        let place = vertex_in s.vertices e some.0 some.1 in
        has_key cell s.vertices place.0 (record { cell = e; code = some.0 }) place.1

    each_taken : (k : ℕ) → HasSome s c → k < q.steps + 1 → HasSome s (cell_on w x k)
    each_taken k here less =
        elim (less_or k q.steps) [
          | inl before ↦ let b = q.before k before in (b.0, b.1)
          | inr rest ↦ elim rest [
            | inl same ↦ subst (λ (e : ℕ). HasSome s e) (q.at ∙ sym (ap (cell_on w x) same)) here
            | inr after ↦ absurd (omega arith)
          ]
        ]

    pub full_at_last : HasSome s c → is_last w x c ≡ true → w.cells ≤ length s.vertices
    full_at_last here last =
        let end = last_place x q.steps c q.short q.at last in
        let few = path_filled x (keys cell s.vertices) (λ k below. taken (cell_on w x k) (each_taken k here (omega arith))) in
        omega (arith, length-keys cell s.vertices)

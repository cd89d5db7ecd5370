-- The number of unfinished vertices, and the debts that cover it.
use Rattle.std.proofs.Common.{◌≡◌, refl, sym, ap, subst, ◌∙◌, ℕ, zero, suc, ◌+◌, ◌≤◌, ◌&&◌, ◌⊎◌, inl, inr, not, cond, Bool, true, false, true≢false, eqb-true, nat_eq, List, [], ◌∷◌, ◌++◌, length, filter, slice_get, Option, Some, None, is_some, Contains, length-append, arith}
use Rattle.std.specs.List.{list_any}
use Rattle.std.specs.Cmp.{nat_eq_equiv}
use Rattle.std.proofs.lemmas.Bool.{and_from}
use Rattle.std.proofs.lemmas.Grind.{common_steps}
use Rattle.std.proofs.lemmas.List.Elements.{filter-append}
use Rattle.std.proofs.lemmas.Map.Made.{length-le_from_is_member}
use Rattle.std.proofs.lemmas.Map.Views.{list_any-from_Contains, Contains-from_any}
use Rattle.list_facts.proofs.Truth.{first_true, second_true}
use Rattle.crystal_cartan.specs.declared.types.Arrow.{Arrow}
use Rattle.tensor_words.specs.Worlds.{WorldType}
use Rattle.graph_history.specs.declared.event.Origin.{Origin}
use Rattle.graph_history.specs.declared.event.Act.{Act}
use Rattle.graph_history.specs.declared.event.Act.TheVariants.{Added, Met, Missed, Spent, Drew, Saw, Blank, Owed, Settled, Tally}
use Rattle.graph_history.specs.declared.event.Event.{Event}
use Rattle.graph_history.specs.History.{Vertex, DrawnArrow, State, empty_state, after, state_from, state_of, target_at, HasVertex, IsDrawn, IsWhole, IsClosed, is_drawn, are_drawn, is_whole, open_vertices, unfinished, IsLegalAct, LegalFrom, IsLegal}
use Rattle.graph_history.specs.Laws.{TallyCloses}
use Rattle.graph_history.proofs.Histories.{target_at-front, legal_prefix, legal_rest}
use Rattle.graph_history.proofs.SoundStates.{IsSound}
use Rattle.graph_history.proofs.VertexLists.{keys, distinct_keys, distinct_part, length-keys, key_at, passing_at, vertex_in}

abbrev cell : Vertex → ℕ
cell v = v.cell

some_from : {X : Type 0} (o : Option X) → is_some o ≡ true → (t : X) × (o ≡ Some t)
some_from None h = cc
some_from (Some t) h = (t, refl)

-- the test of wholeness, and what it says
tested : (ds : List DrawnArrow) (c n : ℕ) (down : Bool) (i : ℕ) → are_drawn ds c n ≡ true → 1 ≤ i → i ≤ n → is_drawn ds c down i ≡ true
unfolding are_drawn
tested ds c zero down i h low high = absurd (omega arith)
tested ds c (suc n) down i h low high =
    let others : (is_drawn ds c false (suc n) && are_drawn ds c n) ≡ true = second_true (is_drawn ds c true (suc n)) _ h in
    let rest : are_drawn ds c n ≡ true = second_true (is_drawn ds c false (suc n)) _ others in
    let lower : is_drawn ds c true (suc n) ≡ true = first_true (is_drawn ds c true (suc n)) _ h in
    let upper : is_drawn ds c false (suc n) ≡ true = first_true (is_drawn ds c false (suc n)) _ others in
    by (nat_eq i (suc n)) refl (way down lower upper) (λ below. tested ds c n down i rest low below)
  where
    way : (down : Bool) → is_drawn ds c true (suc n) ≡ true → is_drawn ds c false (suc n) ≡ true → is_drawn ds c down (suc n) ≡ true
    way true lower upper = lower
    way false lower upper = upper

    by : (b : Bool) → nat_eq i (suc n) ≡ b → is_drawn ds c down (suc n) ≡ true → (i ≤ n → is_drawn ds c down i ≡ true) → is_drawn ds c down i ≡ true
    by true is here later = let same : i ≡ suc n = grind (arith, common_steps) in subst (λ (k : ℕ). is_drawn ds c down k ≡ true) (sym same) here
    by false is here later = let below : i ≤ n = grind (arith, common_steps) in later below

all_tested : (s : State) (c n : ℕ) → ((a : Arrow) → 1 ≤ a.index → a.index ≤ n → IsDrawn s c a) → are_drawn s.drawn c n ≡ true
unfolding are_drawn
all_tested s c zero all = refl
all_tested s c (suc n) all =
    let lower = all (record { down = true; index = suc n }) (omega arith) (omega arith) in
    let upper = all (record { down = false; index = suc n }) (omega arith) (omega arith) in
    and_from (is_drawn s.drawn c true (suc n)) _ (ap is_some lower.1)
    (and_from (is_drawn s.drawn c false (suc n)) _ (ap is_some upper.1) (all_tested s c n (λ a low high. all a low (omega arith))))

more_tested : (ds es : List DrawnArrow) (c n : ℕ) → are_drawn ds c n ≡ true → are_drawn (ds ++ es) c n ≡ true
unfolding are_drawn
more_tested ds es c zero h = refl
more_tested ds es c (suc n) h =
    let rest = second_true (is_drawn ds c true (suc n)) _ h in
    and_from (is_drawn (ds ++ es) c true (suc n)) _ (still true (first_true (is_drawn ds c true (suc n)) _ h))
    (and_from (is_drawn (ds ++ es) c false (suc n)) _ (still false (first_true (is_drawn ds c false (suc n)) _ rest))
    (more_tested ds es c n (second_true (is_drawn ds c false (suc n)) _ rest)))
  where
    still : (down : Bool) → is_drawn ds c down (suc n) ≡ true → is_drawn (ds ++ es) c down (suc n) ≡ true
    still down h =
        let found = some_from (target_at ds c (record { down = down; index = suc n })) h in
        ap is_some (target_at-front ds es c (record { down = down; index = suc n }) found.0 found.1)

module _ (w : WorldType) where
  pub whole_from : (s : State) (c : ℕ) → is_whole w s.drawn c ≡ true → IsWhole w s c
  whole_from s c h a is = some_from (target_at s.drawn c a) (tested s.drawn c w.space.cartan.rank a.down a.index h is.index.low is.index.high)

  pub whole_test : (s : State) (c : ℕ) → IsWhole w s c → is_whole w s.drawn c ≡ true
  whole_test s c whole = all_tested s c w.space.cartan.rank (λ a low high. whole a (record { index = record { low = low; high = high } }))

  -- the test of a vertex that is not whole
  abbrev pub is_open : List DrawnArrow → Vertex → Bool
  is_open ds v = not (is_whole w ds v.cell)

  -- with fewer open vertices the count is not higher
  fewer : (p q : Vertex → Bool) → ((v : Vertex) → q v ≡ true → p v ≡ true) → (vs : List Vertex) → length (filter q vs) ≤ length (filter p vs)
  fewer p q below [] = omega arith
  fewer p q below (v ∷ vs) = by (q v) (p v) refl refl (fewer p q below vs)
    where
      by : (a b : Bool) → q v ≡ a → p v ≡ b → length (filter q vs) ≤ length (filter p vs) → length (cond a (v ∷ filter q vs) (filter q vs)) ≤ length (cond b (v ∷ filter p vs) (filter p vs))
      by true true is too rest = omega arith
      by true false is too rest = absurd (true≢false (sym (below v is) ∙ too))
      by false true is too rest = omega arith
      by false false is too rest = rest

  -- an act leaves the count or lowers it, but `Added`, which raises it by one at most
  pub unfinished_drew : (s : State) (c : ℕ) (a : Arrow) (t : Option ℕ) → unfinished w (after s (Drew c a t)) ≤ unfinished w s
  unfinished_drew s c a t = fewer (is_open s.drawn) (is_open (after s (Drew c a t)).drawn) (λ v. still (is_whole w s.drawn v.cell) (is_whole w (after s (Drew c a t)).drawn v.cell)
      (more_tested s.drawn (record { cell = c; arrow = a; to = t } ∷ []) v.cell w.space.cartan.rank)) s.vertices
    where
      still : (a b : Bool) → (a ≡ true → b ≡ true) → not b ≡ true → not a ≡ true
      still true b more open_now = absurd (true≢false (sym open_now ∙ ap not (more refl)))
      still false b more open_now = refl

  pub unfinished_added : (s : State) (c x : ℕ) (o : Origin) → unfinished w (after s (Added c x o)) ≤ unfinished w s + 1
  unfinished_added s c x o =
      let new : List Vertex = record { cell = c; code = x } ∷ [] in
      let split : open_vertices w (after s (Added c x o)) ≡ open_vertices w s ++ filter (is_open s.drawn) new = filter-append (is_open s.drawn) s.vertices new in
      let long : unfinished w (after s (Added c x o)) ≡ unfinished w s + length (filter (is_open s.drawn) new) =
      ap length split ∙ length-append (open_vertices w s) (filter (is_open s.drawn) new) in
      let last : length (filter (is_open s.drawn) new) ≤ 1 = one (is_whole w s.drawn c) in
      omega arith
    where
      one : (b : Bool) → length {A = Vertex} (cond (not b) (record { cell = c; code = x } ∷ []) []) ≤ 1
      one true = omega arith
      one false = omega arith

  covered_after : (s : State) (act : Act) → unfinished w s ≤ s.debts → IsLegalAct w s act → unfinished w (after s act) ≤ (after s act).debts
  covered_after s (Added c x o) covered may = let more = unfinished_added s c x o in let spare = may.owed in omega arith
  covered_after s (Met c x) covered may = covered
  covered_after s (Missed x) covered may = covered
  covered_after s (Spent x) covered may = covered
  covered_after s (Drew c a t) covered may = let fewer_now = unfinished_drew s c a t in omega arith
  covered_after s (Saw c a t) covered may = covered
  covered_after s (Blank c a) covered may = covered
  covered_after s Owed covered may = omega arith
  covered_after s (Settled paid) covered may = let spare = may.spare in omega arith
  covered_after s (Tally n) covered may = covered

  covered_from : (s : State) (es : List Event) → unfinished w s ≤ s.debts → LegalFrom w s es → unfinished w (state_from s es) ≤ (state_from s es).debts
  covered_from s [] covered legal = covered
  covered_from s (e ∷ es) covered legal = covered_from (after s e.act) es (covered_after s e.act covered legal.0) legal.1

  pub debts_cover : (h : List Event) → IsLegal w h → unfinished w (state_of h) ≤ (state_of h).debts
  unfolding IsLegal
  debts_cover h legal = covered_from empty_state h (omega arith) legal

  -- where the count is zero the graph is closed
  none_passes : (p : Vertex → Bool) (vs : List Vertex) (k : ℕ) (v : Vertex) → length (filter p vs) ≡ 0 → slice_get vs k ≡ Some v → p v ≡ false
  none_passes p [] k v none at = cc
  none_passes p (u ∷ vs) k v none at = by (p u) refl none (λ rest i. none_passes p vs i v rest)
    where
      here : (i : ℕ) → p u ≡ false → slice_get (u ∷ vs) i ≡ Some v → ((j : ℕ) → slice_get vs j ≡ Some v → p v ≡ false) → p v ≡ false
      here zero is at later = let same : u ≡ v = cc in subst (λ (z : Vertex). p z ≡ false) same is
      here (suc i) is at later = later i at

      by : (b : Bool) → p u ≡ b → length (cond b (u ∷ filter p vs) (filter p vs)) ≡ 0 → (length (filter p vs) ≡ 0 → (i : ℕ) → slice_get vs i ≡ Some v → p v ≡ false) → p v ≡ false
      by true is long later = absurd (omega arith)
      by false is long later = here k is at (later long)

  pub closed_by_count : (s : State) → unfinished w s ≡ 0 → IsClosed w s
  closed_by_count s none c (x, there) =
      let place = vertex_in s.vertices c x there in
      let shut : is_open s.drawn (record { cell = c; code = x }) ≡ false = none_passes (is_open s.drawn) s.vertices place.0 (record { cell = c; code = x }) none place.1 in
      whole_from s c (not_false (is_whole w s.drawn c) shut)
    where
      not_false : (b : Bool) → not b ≡ false → b ≡ true
      not_false true h = refl
      not_false false h = cc

  -- the vertices of cells, none of which is named twice, are no more than cells that name all of them
  pub unfinished_within : (s : State) (cells : List ℕ) → IsSound w s → ((c x : ℕ) → HasVertex s c x → IsWhole w s c ⊎ Contains cells c) → unfinished w s ≤ length cells
  unfinished_within s cells S covered =
      let distinct = distinct_part cell (is_open s.drawn) s.vertices (distinct_keys cell s.vertices S.simple.cells) in
      let few : length (keys cell (open_vertices w s)) ≤ length cells = length-le_from_is_member nat_eq_equiv (keys cell (open_vertices w s)) cells distinct named in
      let long = length-keys cell (open_vertices w s) in
      omega arith
    where
      named : (q : ℕ) → list_any (nat_eq q) (keys cell (open_vertices w s)) ≡ true → list_any (nat_eq q) cells ≡ true
      named q is =
          let found = key_at cell (open_vertices w s) q (Contains-from_any eqb-true q (keys cell (open_vertices w s)) is) in
          let passing = passing_at (is_open s.drawn) s.vertices found.0 found.1 found.2 in
          elim (covered found.1.cell found.1.code (S.simple.vertex passing.0 found.1 passing.1)) [
            | inl whole ↦ absurd (true≢false (sym passing.2 ∙ ap not (whole_test s found.1.cell whole)))
            | inr there ↦ list_any-from_Contains nat_eq_equiv q cells (subst (λ (c : ℕ). Contains cells c) found.3 there)
          ]

pub tally_closes : TallyCloses
unfolding IsLegal
tally_closes w before rest n legal =
    let lawful = legal_prefix w before (record { caller = n; act = Tally 0 } ∷ rest) legal in
    let zero_debts : 0 ≡ (state_of before).debts = (legal_rest w empty_state before (record { caller = n; act = Tally 0 } ∷ rest) legal).0 in
    let cover = debts_cover w before lawful in
    closed_by_count w (state_of before) (omega arith)

-- The exchange of a second word: it puts a pair in.
use Rattle.std.proofs.Common.{◌≡◌, ◌≢◌, refl, sym, ap, subst, ◌∙◌, ℕ, ◌+◌, ◌<◌, ◌==◌, ◌⊎◌, inl, inr, Bool, true, false, eqb, eqb-true, if◌then◌else◌, List, [], ◌∷◌, ◌++◌, length, set, sum_by, slice_index, Option, Some, None, Contains, arith}
use Rattle.std.proofs.lemmas.Bool.{eq-eqb, ne_eqb, eqb-false}
use Rattle.std.proofs.lemmas.List.{map-append, set-get_or, get_or-set_same, get_or-set_other, length-set}
use Rattle.std.proofs.lemmas.List.Elements.{Contains-append_left, Contains-push, Contains-push_cases}
use Rattle.std.proofs.lemmas.List.Sums.{sum_by_push}
use mathlib.Core.Option.{some, none}
use lib.ListN.{get_elem?}
use prog.Atomic.{either}
use Rattle.atomic_table.specs.Table.{State as TableState, Me, Step, step, Allows, Act as TableAct, Valid, carried_after, keeps}
use Rattle.atomic_table.proofs.Lists.{exchanged}
use Rattle.graph_history.specs.declared.event.Origin.{Origin}
use Rattle.graph_history.specs.declared.event.Act.{Act}
use Rattle.graph_history.specs.declared.event.Act.TheVariants.{Added, Met}
use Rattle.graph_history.specs.History.{Vertex, State, after, state_from, state_of, vertex_at, HasVertex, HasSome, IsOrigin, IsWhole}
use Rattle.graph_history.specs.Laws.{Stays}
use Rattle.graph_history.specs.Desks.{by}
use Rattle.graph_history.proofs.Histories.{stays_after, vertex_at-push, vertex_at-new, vertex_at-other}
use Rattle.graph_rule.proofs.Views.{some_stays, whole_stays, state_more}
use Rattle.wide_words.specs.declared.spaces.WideCode.{WideCode}
use Rattle.wide_words.specs.WideSpaces.{IsWide, number}
use Rattle.wide_words.specs.WideHistory.{WideWorldType, flat, WideLegalFrom}
use Rattle.wide_rule.specs.declared.dues.WideDues.{WideDues}
use Rattle.wide_rule.specs.Layout.{cell_count, first_index, second_index, first_word, arrow_index, high_of, low_word, pair_of, cell_on, IsLaid, IsPlaced, HasSeen, IsSearched}
use Rattle.wide_rule.specs.Rule.{WideView, cells_of, IsTrue, IsRunning}
use Rattle.wide_rule.specs.Told.{advanced, Advances, unless, finished, claim_second_acts, second_claimed}
use Rattle.wide_rule.proofs.Pairs.{high_number, low_number, pair_number}
use Rattle.wide_rule.proofs.Deciding.{Searches}
use Rattle.wide_rule.proofs.Moving.{PendingElsewhere, OwedElsewhere, Moves, waiting_now, covered_now, owing_now, saw_now, advance, tells}
use Rattle.wide_rule.proofs.CellSteps.{quiet, world_is, in_table, wide_here, code_below, path_here, new_here, own_half, empty_second, free_second, full_second, met_second, read_second, cause_here}

-- the words after a second word was put in
module _ (w : WideWorldType) (words : List ℕ) (s : State) (laid : IsLaid w words s) (c : ℕ) (x : WideCode) (is : IsWide w.space x) (o : Origin)
    (below : c < cell_count w) (half : first_word words c ≡ x.high + 1) (free : vertex_at s.vertices c ≡ None) where
  abbrev vertex : Vertex
  vertex = record { cell = c; code = number w.space x }

  abbrev grown : State
  grown = after s (Added c (number w.space x) o)

  abbrev new_words : List ℕ
  new_words = set words (second_index c) (x.low + 1)

  other_word : (j : ℕ) → j ≢ second_index c → slice_index new_words j ≡ slice_index words j
  other_word j ne = get_or-set_other words (second_index c) j (x.low + 1) 0 ne

  pub first_same : (d : ℕ) → first_word new_words d ≡ first_word words d
  first_same d = other_word (first_index d) (λ z. omega arith)

  pub true_same : (d m : ℕ) → IsTrue w words d m → IsTrue w new_words d m
  true_same d m t = (t.0, first_same d ∙ t.1, t.2)

  highs_then : (d y : ℕ) → HasVertex grown d y → first_word new_words d ≡ high_of w y + 1
  highs_then d y there = first_same d ∙ by_push (vertex_at-push s.vertices vertex d y there)
    where
      by_push : (vertex_at s.vertices d ≡ Some y) ⊎ ((c ≡ d) × (number w.space x ≡ y)) → first_word words d ≡ high_of w y + 1
      by_push (inl before) = laid.highs d y before
      by_push (inr same) =
          ap (first_word words) (sym same.0) ∙ half ∙ ap (λ (n : ℕ). n + 1) (sym (high_number w x is)) ∙ ap (λ (n : ℕ). high_of w n + 1) same.1

  lows_then : (d : ℕ) → d < cell_count w → (b : Bool) → (c == d) ≡ b → slice_index new_words (second_index d) ≡ low_word w (vertex_at grown.vertices d)
  lows_then d low true e =
      let same : c ≡ d = eqb-true c d e in
      let room : second_index c < length words = omega (arith, laid.count) in
      subst (λ (k : ℕ). slice_index new_words (second_index k) ≡ low_word w (vertex_at grown.vertices k)) same
      (get_or-set_same words (second_index c) (x.low + 1) 0 room ∙ ap (λ (n : ℕ). n + 1) (sym (low_number w x is)) ∙ ap (low_word w) (sym (vertex_at-new s.vertices vertex free)))
  lows_then d low false e =
      let other = eqb-false c d e in
      other_word (second_index d) (λ z. other (omega arith)) ∙ laid.lows d low ∙ ap (low_word w) (sym (vertex_at-other s.vertices vertex d e))

  pub added_laid : IsLaid w new_words grown
  added_laid = record {
    count = length-set words (second_index c) (x.low + 1) ∙ laid.count;
    zero_word = other_word 0 (λ z. omega arith) ∙ laid.zero_word;
    highs = highs_then;
    lows = λ d low. lows_then d low (c == d) refl;
    edges = λ d a low js. other_word (arrow_index w d a) (λ z. omega arith) ∙ laid.edges d a low js;
  }

  pub cells_grown : (weigh : ℕ → ℕ) → sum_by weigh (cells_of grown) ≡ sum_by weigh (cells_of s) + weigh c
  cells_grown weigh = ap (sum_by weigh) (map-append (λ (u : Vertex). u.cell) s.vertices (vertex ∷ [])) ∙ sum_by_push weigh (cells_of s) c

-- what the seat has begun after it
abbrev pub put_in : ℕ → WideDues → WideDues
put_in c dues = record dues { owed = dues.owed ++ c ∷ []; pending = unless c dues.pending }

abbrev pub let_go : ℕ → WideDues → WideDues
let_go c dues = record dues { pending = unless c dues.pending }

-- a pending cell that is another one stays pending
pub unless_other : (c d : ℕ) (o : Option ℕ) → o ≡ Some d → d ≢ c → unless c o ≡ Some d
unless_other c d None e ne = absurd (let f : None ≡ Some d = e in cc)
unless_other c d (Some p) e ne =
    let same : p ≡ d = let f : Some p ≡ Some d = e in cc in
    ap (λ (b : Bool). if b then None else Some p) (ne_eqb p c (λ z. ne (sym same ∙ z))) ∙ ap (λ (k : ℕ). Some k) same

module _ {key : WideWorldType} {words : List ℕ} {views : List WideView} (r : IsRunning key words views) (id : ℕ) (v : WideView) (at : get_elem? views id ≡ some v) (live : 0 < v.stake)
    (c : ℕ) (x : WideCode) (low : c < cell_count v.world) (is_wide : IsWide v.world.space x) (q : IsSearched v.world (state_of v.front) v.dues.seen x c)
    (half : HasSeen v.dues.seen c (x.high + 1)) (o : Origin) (cause : IsOrigin (flat key) (state_of r.history) (number key.space x) o)
    (empty : slice_index words (second_index c) ≡ 0) where
  abbrev S : State
  S = state_of r.history

  abbrev num : ℕ
  num = number key.space x

  abbrev acts : List Act
  acts = Added c num o ∷ []

  abbrev then_state : State
  then_state = after S (Added c num o)

  abbrev words' : List ℕ
  words' = set words (second_index c) (x.low + 1)

  abbrev dues : WideDues
  dues = put_in c v.dues

  stays : Stays S then_state
  stays = stays_after S (Added c num o)

  abbrev is : IsWide key.space x
  is = wide_here r id v at live c x low is_wide q

  abbrev below : c < cell_count key
  below = in_table r id v at live c x low is_wide q

  own_word : first_word words c ≡ x.high + 1
  own_word = own_half r id v at live c x low is_wide q half

  free : vertex_at S.vertices c ≡ None
  free = empty_second r id v at live c x low is_wide q half empty

  path : Searches key words S r.laid x is c
  path = path_here r id v at live c x low is_wide q

  same_first : (d : ℕ) → first_word words' d ≡ first_word words d
  same_first d = first_same key words S r.laid c x is o below own_word free d

  here_now : HasSome then_state c
  here_now = (num, vertex_at-new S.vertices (record { cell = c; code = num }) free)

  placed_new : IsPlaced key words' then_state x c
  placed_new = record {
    steps = path.steps;
    short = path.short;
    at = path.at;
    taken = λ k less z. (path.before k less).0 (sym (same_first (cell_on key x k)) ∙ z);
    filled = λ k less e. fills k (path.before k less).1 (sym (same_first (cell_on key x k)) ∙ e);
  }
    where
      fills : (k : ℕ) → (first_word words (cell_on key x k) ≢ x.high + 1) ⊎ ((y : ℕ) × HasVertex S (cell_on key x k) y × (y ≢ num)) → first_word words (cell_on key x k) ≡ x.high + 1 → HasSome then_state (cell_on key x k)
      fills k (inl other) e = absurd (other e)
      fills k (inr (y, there, other)) e = some_stays S then_state (cell_on key x k) stays (y, there)

  placed_then : (d y : ℕ) → HasVertex then_state d y → IsPlaced key words' then_state (pair_of key y) d
  placed_then d y there = by_push (vertex_at-push S.vertices (record { cell = c; code = num }) d y there)
    where
      old : (z : WideCode) → IsPlaced key words S z d → IsPlaced key words' then_state z d
      old z p = record {
        steps = p.steps;
        short = p.short;
        at = p.at;
        taken = λ k less e. p.taken k less (sym (same_first (cell_on key z k)) ∙ e);
        filled = λ k less e. some_stays S then_state (cell_on key z k) stays (p.filled k less (sym (same_first (cell_on key z k)) ∙ e));
      }

      by_push : (vertex_at S.vertices d ≡ Some y) ⊎ ((c ≡ d) × (num ≡ y)) → IsPlaced key words' then_state (pair_of key y) d
      by_push (inl before) = old (pair_of key y) (r.placed d y before)
      by_push (inr same) =
          subst (λ (k : ℕ). IsPlaced key words' then_state (pair_of key y) k) same.0
          (subst (λ (n : ℕ). IsPlaced key words' then_state (pair_of key n) c) same.1
          (subst (λ (z : WideCode). IsPlaced key words' then_state z c) (sym (pair_number key x is)) placed_new))

  waiting_then : (d : ℕ) → d < cell_count key → first_word words' d ≢ 0 → HasSome then_state d ⊎ (PendingElsewhere r id v at live d ⊎ (unless c v.dues.pending ≡ Some d))
  waiting_then d within some_word = by_rule (waiting_now r id v at live d within (λ z. some_word (same_first d ∙ z)))
    where
      mine : v.dues.pending ≡ Some d → (b : Bool) → (d == c) ≡ b → HasSome then_state d ⊎ (PendingElsewhere r id v at live d ⊎ (unless c v.dues.pending ≡ Some d))
      mine waits true e = inl (subst (λ (k : ℕ). HasSome then_state k) (sym (eqb-true d c e)) here_now)
      mine waits false e = inr (inr (unless_other c d v.dues.pending waits (eqb-false d c e)))

      by_rule : HasSome S d ⊎ (PendingElsewhere r id v at live d ⊎ (v.dues.pending ≡ Some d)) → HasSome then_state d ⊎ (PendingElsewhere r id v at live d ⊎ (unless c v.dues.pending ≡ Some d))
      by_rule (inl there) = inl (some_stays S then_state d stays there)
      by_rule (inr (inl other)) = inr (inl other)
      by_rule (inr (inr waits)) = mine waits (d == c) refl

  covered_then : (d y : ℕ) → HasVertex then_state d y → IsWhole (flat key) then_state d ⊎ (OwedElsewhere r id v at live d ⊎ Contains dues.owed d)
  covered_then d y there = by_push (vertex_at-push S.vertices (record { cell = c; code = num }) d y there)
    where
      old : IsWhole (flat key) S d ⊎ (OwedElsewhere r id v at live d ⊎ Contains v.dues.owed d) → IsWhole (flat key) then_state d ⊎ (OwedElsewhere r id v at live d ⊎ Contains dues.owed d)
      old (inl done) = inl (whole_stays (flat key) S then_state d stays done)
      old (inr (inl other)) = inr (inl other)
      old (inr (inr has)) = inr (inr (Contains-append_left v.dues.owed (c ∷ []) d has))

      by_push : (vertex_at S.vertices d ≡ Some y) ⊎ ((c ≡ d) × (num ≡ y)) → IsWhole (flat key) then_state d ⊎ (OwedElsewhere r id v at live d ⊎ Contains dues.owed d)
      by_push (inl before) = old (covered_now r id v at live d y before)
      by_push (inr same) = inr (inr (subst (λ (k : ℕ). Contains dues.owed k) same.0 (Contains-push v.dues.owed c)))

  pub adds : Moves r id v at live acts dues words'
  adds = record {
    legal = (
      record {
        word = code_below r id v at live c x low is_wide q;
        fresh = new_here r id v at live c x low is_wide q (free_second r id v at live c x low is_wide q half empty);
        cell = below;
        free = free;
        origin = cause;
      },
      tt,
    );
    laid = added_laid key words S r.laid c x is o below own_word free;
    placed = placed_then;
    waiting = waiting_then;
    saw = λ d m has. true_same key words S r.laid c x is o below own_word free d m (saw_now r id v at live d m has);
    stay = true_same key words S r.laid c x is o below own_word free;
    owing = λ d has.
        elim (Contains-push_cases v.dues.owed c d has) [
          | inl before ↦ some_stays S then_state d stays (owing_now r id v at live d before)
          | inr same ↦ subst (λ (k : ℕ). HasSome then_state k) same here_now
        ];
    covered = covered_then;
    counted = λ weigh. let more = sum_by_push weigh v.dues.owed c in let grows = cells_grown key words S r.laid c x is o below own_word free weigh in omega arith;
  }

-- what the table asks of the exchange
module _ (key : WideWorldType) (slots id : ℕ) (me : Me Unit WideView) (live : 0 < me.0.stake) (c : ℕ) (below : c < cell_count me.0.world)
    (x : WideCode) (is_wide : IsWide me.0.world.space x) (q : IsSearched me.0.world (state_of me.0.front) me.0.dues.seen x c) (o : Origin)
    (cause : IsOrigin (flat me.0.world) (state_of me.0.front) (number me.0.world.space x) o) (half : HasSeen me.0.dues.seen c (x.high + 1)) where
  abbrev rule : TableState Unit WideView → Type 0
  rule s = IsRunning key s.words s.views

  abbrev any : Step Unit
  any = step 0 0 0 0 none

  -- the acts where there was a second word
  abbrev taken_acts : WideWorldType → ℕ → List Act
  taken_acts w word = if word == x.low + 1 then Met c (number w.space x) ∷ [] else []

  taken_is : (w : WideWorldType) (word : ℕ) → word ≢ 0 → taken_acts w word ≡ claim_second_acts w c x o word
  taken_is w word ne = ap (λ (b : Bool). if b then Added c (number w.space x) o ∷ [] else (if word == x.low + 1 then Met c (number w.space x) ∷ [] else [])) (sym (ne_eqb word 0 ne))

  taken_still : (w : WideWorldType) (s : State) (word : ℕ) → state_from s (by me.0.number (taken_acts w word)) ≡ s
  taken_still w s word = by_test (word == x.low + 1)
    where
      by_test : (b : Bool) → state_from s (by me.0.number (if b then Met c (number w.space x) ∷ [] else [])) ≡ s
      by_test true = refl
      by_test false = refl

  module _ (s : TableState Unit WideView) (r : IsRunning key s.words s.views) (at : get_elem? s.views id ≡ some me.0) where
    abbrev found : ℕ
    found = slice_index s.words (second_index c)

    abbrev now : State
    now = state_of r.history

    world_here : me.0.world ≡ key
    world_here = world_is r id me.0 at live c x below is_wide q

    taken_legal : WideLegalFrom key now (by me.0.number (taken_acts key found))
    taken_legal = by_test (found == x.low + 1) refl
      where
        by_test : (b : Bool) → (found == x.low + 1) ≡ b → WideLegalFrom key now (by me.0.number (if b then Met c (number key.space x) ∷ [] else []))
        by_test true e = (met_second r id me.0 at live c x below is_wide q half (eqb-true found (x.low + 1) e), tt)
        by_test false e = tt

    abbrev Answer : ℕ → Type 0
    Answer word = (w : WideView) × (a : TableAct Unit) × Valid s.homes me.1 a × IsRunning key (set s.words (second_index c) word) (set s.views id w) × second_claimed c x o any me found (w, carried_after me.1 a)

    own_is : (b : Bool) → (found == 0) ≡ b → (if b then put_in c me.0.dues else let_go c me.0.dues) ≡ finished c found me.0.dues
    own_is b e = ap (λ (z : Bool). if z then put_in c me.0.dues else let_go c me.0.dues) (sym e)

    won : found ≡ 0 → Answer (x.low + 1)
    won zero_found =
        let m = adds r id me.0 at live c x below is_wide q half o (cause_here key slots id me live c below x is_wide q o cause s r at) zero_found in
        let dues = put_in c me.0.dues in
        let acts = Added c (number key.space x) o ∷ [] in
        let next = advanced me.0 r.history acts dues in
        let words' = set s.words (second_index c) (x.low + 1) in
        let acts_are : acts ≡ claim_second_acts me.0.world c x o found =
        ap (λ (b : Bool). if b then acts else (if found == x.low + 1 then Met c (number key.space x) ∷ [] else [])) (sym (eq-eqb found 0 zero_found))
        ∙ ap (λ (w : WideWorldType). claim_second_acts w c x o found) (sym world_here) in (
          next,
          keeps,
          tt,
          advance r id me.0 at live acts dues words' m,
          (
            refl,
            subst (λ (l : List Act). Advances me.0 next l (finished c found me.0.dues)) acts_are
                (subst (λ (z : WideDues). Advances me.0 next acts z) (own_is true (eq-eqb found 0 zero_found)) (tells r id me.0 at live acts dues words' m)),
            λ ne. absurd (ne zero_found),
          ),
        )

    lost : found ≢ 0 → Answer found
    lost ne =
        let dues = let_go c me.0.dues in
        let acts = taken_acts me.0.world found in
        let words' = set s.words (second_index c) found in
        let full = full_second r id me.0 at live c x below is_wide q half ne in
        let same = taken_still me.0.world now found in
        let legal = subst (λ (w : WideWorldType). WideLegalFrom key now (by me.0.number (taken_acts w found))) (sym world_here) taken_legal in
        let m = quiet r id me.0 at live acts dues words' (set-get_or s.words (second_index c) 0) same legal refl (λ d e. still_waits d (full.0, full.1) e (d == c) refl) (saw_now r id me.0 at live) in
        let next = advanced me.0 r.history acts dues in (
          next,
          keeps,
          tt,
          advance r id me.0 at live acts dues words' m,
          (
            refl,
            subst (λ (l : List Act). Advances me.0 next l (finished c found me.0.dues)) (taken_is me.0.world found ne)
                (subst (λ (z : WideDues). Advances me.0 next acts z) (own_is false (ne_eqb found 0 ne)) (tells r id me.0 at live acts dues words' m)),
            λ z. read_second r id me.0 at live c x below is_wide q half
                ∙ ap (λ (t : State). low_word key (vertex_at t.vertices c)) (sym (state_more r.history me.0.number acts ∙ same))
                ∙ ap (λ (w : WideWorldType). low_word w (vertex_at (state_of next.front).vertices c)) (sym world_here),
          ),
        )
      where
        still_waits : (d : ℕ) → HasSome now c → me.0.dues.pending ≡ Some d → (b : Bool) → (d == c) ≡ b → HasSome now d ⊎ (unless c me.0.dues.pending ≡ Some d)
        still_waits d there waits true e = inl (subst (λ (k : ℕ). HasSome now k) (sym (eqb-true d c e)) there)
        still_waits d there waits false e = inr (unless_other c d me.0.dues.pending waits (eqb-false d c e))

  pub claims_second : Allows rule slots id me (second_index c) (λ n. either (eqb n 0) (x.low + 1) n) (second_claimed c x o any me)
  claims_second s r homes at fit = exchanged (slice_index s.words (second_index c)) 0 (x.low + 1) (Answer s r at) (won s r at) (lost s r at)

-- The exchange that puts a vertex in.
use Rattle.std.proofs.Common.{◌≡◌, ◌≢◌, refl, sym, ap, subst, ◌∙◌, ℕ, ◌+◌, ◌<◌, ◌==◌, ◌⊎◌, inl, inr, cond, Bool, true, false, eqb, eqb-true, List, [], ◌∷◌, ◌++◌, length, set, slice_index, Some, None, Contains, length-append, arith}
use Rattle.std.proofs.lemmas.Grind.{common_steps}
use Rattle.std.proofs.lemmas.List.{set-get_or, get_or-set_same, get_or-set_other, length-set}
use Rattle.std.proofs.lemmas.List.Elements.{Contains-append_left, Contains-push, Contains-push_cases}
use mathlib.Core.Option.{some, none}
use lib.ListN.{get_elem?}
use prog.Atomic.{either}
use Rattle.atomic_table.specs.Table.{State as TableState, Me, Step, step, Allows, Act as TableAct, Valid, carried_after, keeps}
use Rattle.atomic_table.proofs.Lists.{exchanged}
use Rattle.tensor_words.specs.Spaces.{size}
use Rattle.tensor_words.specs.Worlds.{WorldType}
use Rattle.graph_history.specs.declared.event.Origin.{Origin}
use Rattle.graph_history.specs.declared.event.Act.{Act}
use Rattle.graph_history.specs.declared.event.Act.TheVariants.{Added, Met}
use Rattle.graph_history.specs.declared.view.Dues.{Dues}
use Rattle.graph_history.specs.Views.{View}
use Rattle.graph_history.specs.History.{State, after, state_from, state_of, vertex_at, HasVertex, HasSome, IsOrigin, IsWhole, LegalFrom, HasSpareDebt, caller_of}
use Rattle.graph_history.specs.Laws.{Stays}
use Rattle.graph_history.specs.Desks.{by}
use Rattle.graph_history.specs.ArrowRows.{edge_place}
use Rattle.graph_history.proofs.Histories.{stays_after, vertex_at-push, vertex_at-new, vertex_at-other}
use Rattle.graph_rule.specs.Layout.{IsLaid, code_word, IsPlaced, IsSearched}
use Rattle.shared_seats.specs.Seats.{Fits}
use Rattle.graph_rule.specs.Rule.{whole, IsDues, IsRunning}
use Rattle.graph_rule.specs.Told.{advanced, Advances, claimed_acts, claimed_dues, with_cell, unpledged, claimed}
use Rattle.graph_history.proofs.CellLists.{distinct_push}
use Rattle.graph_rule.proofs.Views.{some_stays, whole_stays}
use Rattle.graph_rule.proofs.Advance.{Elsewhere, Moves, fits_here, owes_here, open_now, advance, tells}
use Rattle.graph_rule.proofs.Paths.{searched_stays, placed_stays, new_at_empty, word_none, word_some}
use Rattle.graph_rule.proofs.Payers.{repay, repay_same, repay_other}
use Rattle.graph_rule.proofs.CellSteps.{front_stays, dues_now, still, word_then, origin_stays}
use Rattle.graph_rule.proofs.Spare.{spare}

-- the words after a code was put into an empty cell
module _ (w : WorldType) (words : List ℕ) (s : State) (L : IsLaid w words s) (c x : ℕ) (o : Origin) (below : c < w.cells) (free : vertex_at s.vertices c ≡ None) where
  abbrev grown : State
  grown = after s (Added c x o)

  abbrev new_words : List ℕ
  new_words = set words (1 + c) (x + 1)

  other_word : (j : ℕ) → j ≢ 1 + c → slice_index new_words j ≡ slice_index words j
  other_word j ne = get_or-set_other words (1 + c) j (x + 1) 0 ne

  cell_laid : (d : ℕ) → d < w.cells → (b : Bool) → (c == d) ≡ b → slice_index new_words (1 + d) ≡ code_word (vertex_at grown.vertices d)
  cell_laid d low true e =
      let same : c ≡ d = eqb-true c d e in
      let room : 1 + c < length words = omega (arith, L.count) in
      subst (λ (k : ℕ). slice_index new_words (1 + k) ≡ code_word (vertex_at grown.vertices k)) same
      (get_or-set_same words (1 + c) (x + 1) 0 room ∙ ap code_word (sym (vertex_at-new s.vertices (record { cell = c; code = x }) free)))
  cell_laid d low false e =
      let ne : 1 + d ≢ 1 + c = λ z. let same : c ≡ d = omega arith in grind (arith, common_steps) in
      other_word (1 + d) ne ∙ L.cells d low ∙ ap code_word (sym (vertex_at-other s.vertices (record { cell = c; code = x }) d e))

  pub added_laid : IsLaid w new_words grown
  added_laid = record {
    count = length-set words (1 + c) (x + 1) ∙ L.count;
    debts = other_word 0 (λ z. omega arith) ∙ L.debts;
    cells = λ d low. cell_laid d low (c == d) refl;
    edges = λ d a low is. other_word (1 + w.cells + edge_place w.space.cartan.rank d a) (λ z. omega arith) ∙ L.edges d a low is;
  }

module _ {key : WorldType} {words : List ℕ} {views : List View} (r : IsRunning key words views) (id : ℕ) (v : View) (at : get_elem? views id ≡ some v) (live : 0 < v.stake) (c x : ℕ) (o : Origin)
    (below : c < key.cells) (is_word : x < size key.space) (q : IsSearched key (state_of r.history) c x) (cause : IsOrigin key (state_of r.history) x o) (pledged : v.dues.pledge ≡ 1)
    (free : vertex_at (state_of r.history).vertices c ≡ None) where
  abbrev S : State
  S = state_of r.history

  abbrev acts : List Act
  acts = Added c x o ∷ []

  abbrev then_state : State
  then_state = after S (Added c x o)

  stays : Stays S then_state
  stays = stays_after S (Added c x o)

  abbrev d : Dues
  d = with_cell c v.dues

  -- a cell that has a vertex is another one
  other_cell : (e : ℕ) → HasSome S e → e ≢ c
  other_cell e there = λ same. let none : vertex_at S.vertices e ≡ None = ap (vertex_at S.vertices) same ∙ free in let some = there.1 in cc

  unpaid_other : (e : ℕ) → Contains v.dues.unpaid e → e ≢ c
  unpaid_other e has = let D = dues_now r id v at live in other_cell e (D.owed e (D.among e has))

  here_now : HasSome then_state c
  here_now = (x, vertex_at-new S.vertices (record { cell = c; code = x }) free)

  spare_now : HasSpareDebt key S
  spare_now = spare r id v at live (unpledged v.dues) (omega arith) (open_now r id v at live)

  dues_then : IsDues then_state d
  dues_then =
      let D = dues_now r id v at live in
      record {
        owed = λ e has.
            elim (Contains-push_cases v.dues.owed c e has) [
              | inl before ↦ some_stays S then_state e stays (D.owed e before)
              | inr same ↦ subst (λ (k : ℕ). HasSome then_state k) same here_now
            ];
        among = λ e has.
            elim (Contains-push_cases v.dues.unpaid c e has) [
              | inl before ↦ Contains-append_left v.dues.owed (c ∷ []) e (D.among e before)
              | inr same ↦ subst (λ (k : ℕ). Contains (v.dues.owed ++ c ∷ []) k) same (Contains-push v.dues.owed c)
            ];
        once = distinct_push v.dues.unpaid c D.once (λ has. unpaid_other c has refl);
        pledge = omega arith;
      }

  covered_then : (e y : ℕ) → HasVertex then_state e y → IsWhole key then_state e ⊎ (Elsewhere r id v at live e ⊎ Contains d.unpaid e)
  covered_then e y there = by_push (vertex_at-push S.vertices (record { cell = c; code = x }) e y there)
    where
      old : IsWhole key S e ⊎ (Elsewhere r id v at live e ⊎ Contains v.dues.unpaid e) → IsWhole key then_state e ⊎ (Elsewhere r id v at live e ⊎ Contains d.unpaid e)
      old (inl done) = inl (whole_stays key S then_state e stays done)
      old (inr (inl other)) = inr (inl other)
      old (inr (inr has)) = inr (inr (Contains-append_left v.dues.unpaid (c ∷ []) e has))

      by_push : (vertex_at S.vertices e ≡ Some y) ⊎ ((c ≡ e) × (x ≡ y)) → IsWhole key then_state e ⊎ (Elsewhere r id v at live e ⊎ Contains d.unpaid e)
      by_push (inl before) = old (open_now r id v at live e y before)
      by_push (inr same) = inr (inr (subst (λ (k : ℕ). Contains d.unpaid k) same.0 (Contains-push v.dues.unpaid c)))

  placed_then : (e y : ℕ) → HasVertex then_state e y → IsPlaced key then_state e y
  placed_then e y there = by_push (vertex_at-push S.vertices (record { cell = c; code = x }) e y there)
    where
      new : IsPlaced key then_state c x
      new = record { steps = q.steps; short = q.short; at = q.at; before = λ k less. let b = q.before k less in some_stays S then_state _ stays (b.0, b.1) }

      by_push : (vertex_at S.vertices e ≡ Some y) ⊎ ((c ≡ e) × (x ≡ y)) → IsPlaced key then_state e y
      by_push (inl before) = placed_stays key S then_state e y stays (r.placed e y before)
      by_push (inr same) = subst (λ (k : ℕ). IsPlaced key then_state k y) same.0 (subst (λ (k : ℕ). IsPlaced key then_state c k) same.1 new)

  pub added : Moves r id v at live acts d (set words (1 + c) (x + 1))
  added = record {
    payer = repay r.payer c id;
    legal = (record { word = is_word; fresh = new_at_empty key S c x q r.placed free; cell = below; free = free; origin = cause; owed = spare_now }, tt);
    dues = dues_then;
    mine = λ e has.
        elim (Contains-push_cases v.dues.unpaid c e has) [
          | inl before ↦ repay_other r.payer c id e (unpaid_other e before) ∙ (owes_here r id v at live).pays e before
          | inr same ↦ repay_same r.payer c id e (sym same)
        ];
    rest = λ e there. repay_other r.payer c id e (other_cell e there);
    counted = omega (arith, length-append v.dues.unpaid (c ∷ []));
    laid = added_laid key words S r.laid c x o below free;
    placed = placed_then;
    covered = covered_then;
  }

-- what the table asks of the exchange
module _ (key : WorldType) (slots id : ℕ) (me : Me Unit View) (live : 0 < me.0.stake) (i c : ℕ) (is : i ≡ 1 + c) (below : c < me.0.world.cells)
    (x : ℕ) (q : IsSearched me.0.world (state_of me.0.front) c x) (is_word : x < size me.0.world.space) (o : Origin) (cause : IsOrigin me.0.world (state_of me.0.front) x o) (pledged : me.0.dues.pledge ≡ 1) where
  abbrev rule : TableState Unit View → Type 0
  rule s = IsRunning key s.words s.views

  abbrev any : Step Unit
  any = step 0 0 0 0 none

  -- the acts where the cell is taken
  taken_still : (s : State) (word : ℕ) → word ≢ 0 → state_from s (by me.0.number (claimed_acts c x o word)) ≡ s
  taken_still s word ne = by_tests (word == 0) (word == x + 1) refl
    where
      by_tests : (a b : Bool) → (word == 0) ≡ a → state_from s (by me.0.number (cond a (Added c x o ∷ []) (cond b (Met c x ∷ []) []))) ≡ s
      by_tests true b e = absurd (ne (eqb-true word 0 e))
      by_tests false true e = refl
      by_tests false false e = refl

  taken_legal : (w : WorldType) (s : State) (word : ℕ) → word ≢ 0 → word ≡ code_word (vertex_at s.vertices c) → LegalFrom w s (by me.0.number (claimed_acts c x o word))
  taken_legal w s word ne found = by_tests (word == 0) (word == x + 1) refl refl
    where
      by_tests : (a b : Bool) → (word == 0) ≡ a → (word == x + 1) ≡ b → LegalFrom w s (by me.0.number (cond a (Added c x o ∷ []) (cond b (Met c x ∷ []) [])))
      by_tests true b e f = absurd (ne (eqb-true word 0 e))
      by_tests false true e f = (word_some (vertex_at s.vertices c) x (sym found ∙ eqb-true word (x + 1) f), tt)
      by_tests false false e f = tt

  same_dues : (word : ℕ) → word ≢ 0 → claimed_dues c word me.0.dues ≡ me.0.dues
  same_dues word ne = by_test (word == 0) refl
    where
      by_test : (a : Bool) → (word == 0) ≡ a → cond a (with_cell c me.0.dues) me.0.dues ≡ me.0.dues
      by_test true e = absurd (ne (eqb-true word 0 e))
      by_test false e = refl

  module _ (s : TableState Unit View) (r : IsRunning key s.words s.views) (at : get_elem? s.views id ≡ some me.0) where
    abbrev fits : Fits whole caller_of key r.seated.owner r.history id me.0
    fits = fits_here r id me.0 at live

    abbrev found : ℕ
    found = slice_index s.words i

    in_table : c < key.cells
    in_table = subst (λ (w : WorldType). c < w.cells) fits.world_is below

    read : found ≡ code_word (vertex_at (state_of r.history).vertices c)
    read = ap (slice_index s.words) is ∙ r.laid.cells c in_table

    abbrev Answer : ℕ → Type 0
    Answer word = (w : View) × (a : TableAct Unit) × Valid s.homes me.1 a × IsRunning key (set s.words i word) (set s.views id w) × claimed c x o any me found (w, carried_after me.1 a)

    won : found ≡ 0 → Answer (x + 1)
    won zero_found =
        let m = added r id me.0 at live c x o in_table (subst (λ (u : WorldType). x < size u.space) fits.world_is is_word)
        (searched_stays key (state_of me.0.front) (state_of r.history) c x (front_stays r id me.0 at live) (subst (λ (u : WorldType). IsSearched u (state_of me.0.front) c x) fits.world_is q))
        (origin_stays key (state_of me.0.front) (state_of r.history) x o (front_stays r id me.0 at live) (subst (λ (u : WorldType). IsOrigin u (state_of me.0.front) x o) fits.world_is cause))
        pledged (word_none (vertex_at (state_of r.history).vertices c) (sym read ∙ zero_found)) in
        let next = advanced me.0 r.history (Added c x o ∷ []) (with_cell c me.0.dues) in
        let told = tells r id me.0 at live (Added c x o ∷ []) (with_cell c me.0.dues) (set s.words (1 + c) (x + 1)) m in
        let runs = advance r id me.0 at live (Added c x o ∷ []) (with_cell c me.0.dues) (set s.words (1 + c) (x + 1)) m in (
          next,
          keeps,
          tt,
          subst (λ (k : ℕ). IsRunning key (set s.words k (x + 1)) (set s.views id next)) (sym is) runs,
          (refl, subst (λ (k : ℕ). Advances me.0 next (claimed_acts c x o k) (claimed_dues c k me.0.dues)) (sym zero_found) told, λ ne. absurd (ne zero_found)),
        )

    lost : found ≢ 0 → Answer found
    lost ne =
        let acts = claimed_acts c x o found in
        let same = taken_still (state_of r.history) found ne in
        let m = still r id me.0 at live acts (set s.words i found) same (set-get_or s.words i 0) (taken_legal key (state_of r.history) found ne read) in
        let next = advanced me.0 r.history acts me.0.dues in (
          next,
          keeps,
          tt,
          advance r id me.0 at live acts me.0.dues (set s.words i found) m,
          (
            refl,
            subst (λ (z : Dues). Advances me.0 next acts z) (sym (same_dues found ne)) (tells r id me.0 at live acts me.0.dues (set s.words i found) m),
            λ z. ap (slice_index s.words) is ∙ word_then r id me.0 at live acts me.0.dues c in_table same,
          ),
        )

  pub claims : Allows rule slots id me i (λ n. either (eqb n 0) (x + 1) n) (claimed c x o any me)
  claims s r homes at fit = exchanged (slice_index s.words i) 0 (x + 1) (Answer s r at) (won s r at) (lost s r at)

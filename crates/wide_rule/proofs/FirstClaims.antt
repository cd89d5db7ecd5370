-- The exchange of a first word: it claims a cell for a half.
use Rattle.std.proofs.Common.{◌≡◌, ◌≢◌, refl, sym, ap, subst, ◌∙◌, ℕ, ◌+◌, ◌<◌, ◌==◌, ◌⊎◌, inl, inr, Bool, true, false, eqb, eqb-true, if◌then◌else◌, List, [], set, slice_index, Some, None, arith}
use Rattle.std.proofs.lemmas.Bool.{eq-eqb, ne_eqb, eqb-false}
use Rattle.std.proofs.lemmas.List.{set-get_or, get_or-set_same, get_or-set_other, length-set}
use Rattle.std.proofs.lemmas.List.Elements.{Contains-push_cases}
use mathlib.Core.Option.{some, none}
use lib.ListN.{get_elem?}
use prog.Atomic.{either}
use Rattle.atomic_table.specs.Table.{State as TableState, Me, Step, step, Allows, Act as TableAct, Valid, carried_after, keeps}
use Rattle.atomic_table.proofs.Lists.{exchanged}
use Rattle.graph_history.specs.History.{State, state_of, HasSome}
use Rattle.wide_words.specs.declared.spaces.WideCode.{WideCode}
use Rattle.wide_words.specs.WideHistory.{WideWorldType}
use Rattle.wide_rule.specs.declared.dues.WideDues.{WideDues}
use Rattle.wide_rule.specs.declared.dues.Seen.{Seen}
use Rattle.wide_rule.specs.Layout.{cell_count, first_index, second_index, first_word, arrow_index, pair_of, IsLaid, IsPlaced}
use Rattle.wide_rule.specs.Rule.{WideView, IsTrue, IsRunning}
use Rattle.wide_rule.specs.Told.{advanced, Advances, with_seen, claimed, tried, IsAsSeen, first_claimed}
use Rattle.wide_rule.proofs.Moving.{fits_here, PendingElsewhere, Moves, waiting_now, covered_now, owing_now, saw_now, advance, tells}
use Rattle.wide_rule.proofs.CellSteps.{quiet, seen_more}

-- the words after the exchange of an empty first word
module _ (w : WideWorldType) (words : List ℕ) (c n : ℕ) (below : c < cell_count w) (empty : first_word words c ≡ 0) where
  abbrev new_words : List ℕ
  new_words = set words (first_index c) n

  other_word : (j : ℕ) → j ≢ first_index c → slice_index new_words j ≡ slice_index words j
  other_word j ne = get_or-set_other words (first_index c) j n 0 ne

  -- a first word that is not 0 is another one, and stays
  pub first_stays : (d : ℕ) → first_word words d ≢ 0 → first_word new_words d ≡ first_word words d
  first_stays d some_word = other_word (first_index d) (λ z. let same : d ≡ c = omega arith in some_word (ap (first_word words) same ∙ empty))

  pub true_stays : (d m : ℕ) → IsTrue w words d m → IsTrue w new_words d m
  true_stays d m t = (t.0, first_stays d (λ z. t.2 (sym t.1 ∙ z)) ∙ t.1, t.2)

  module _ (s : State) (laid : IsLaid w words s) where
    pub claimed_laid : IsLaid w new_words s
    claimed_laid = record {
      count = length-set words (first_index c) n ∙ laid.count;
      zero_word = other_word 0 (λ z. omega arith) ∙ laid.zero_word;
      highs = λ d x there. let old = laid.highs d x there in first_stays d (λ z. omega arith) ∙ old;
      lows = λ d low. other_word (second_index d) (λ z. omega arith) ∙ laid.lows d low;
      edges = λ d a low is. other_word (arrow_index w d a) (λ z. omega arith) ∙ laid.edges d a low is;
    }

    pub placed_claimed : (x : WideCode) (d : ℕ) → IsPlaced w words s x d → IsPlaced w new_words s x d
    placed_claimed x d p = record {
      steps = p.steps;
      short = p.short;
      at = p.at;
      taken = λ k less z. p.taken k less (sym (first_stays _ (p.taken k less)) ∙ z);
      filled = λ k less e. p.filled k less (sym (first_stays _ (p.taken k less)) ∙ e);
    }

module _ {key : WideWorldType} {words : List ℕ} {views : List WideView} (r : IsRunning key words views) (id : ℕ) (v : WideView) (at : get_elem? views id ≡ some v) (live : 0 < v.stake)
    (c : ℕ) (x : WideCode) (below : c < cell_count key) (idle : v.dues.pending ≡ None) (empty : first_word words c ≡ 0) where
  abbrev S : State
  S = state_of r.history

  abbrev words' : List ℕ
  words' = set words (first_index c) (x.high + 1)

  here_now : first_word words' c ≡ x.high + 1
  here_now = get_or-set_same words (first_index c) (x.high + 1) 0 (omega (arith, r.laid.count))

  waiting_then : (d : ℕ) → d < cell_count key → first_word words' d ≢ 0 → HasSome S d ⊎ (PendingElsewhere r id v at live d ⊎ (Some c ≡ Some d))
  waiting_then d low some_word = by_cell (c == d) refl
    where
      old : HasSome S d ⊎ (PendingElsewhere r id v at live d ⊎ (v.dues.pending ≡ Some d)) → HasSome S d ⊎ (PendingElsewhere r id v at live d ⊎ (Some c ≡ Some d))
      old (inl there) = inl there
      old (inr (inl other)) = inr (inl other)
      old (inr (inr mine)) = absurd (let e : None ≡ Some d = sym idle ∙ mine in cc)

      by_cell : (b : Bool) → (c == d) ≡ b → HasSome S d ⊎ (PendingElsewhere r id v at live d ⊎ (Some c ≡ Some d))
      by_cell true e = inr (inr (ap (λ (k : ℕ). Some k) (eqb-true c d e)))
      by_cell false e =
          let ne = eqb-false c d e in
          let same : first_word words' d ≡ first_word words d = get_or-set_other words (first_index c) (first_index d) (x.high + 1) 0 (λ z. ne (omega arith)) in
          old (waiting_now r id v at live d low (λ z. some_word (same ∙ z)))

  pub claims : Moves r id v at live [] (claimed c x v.dues) words'
  claims = record {
    legal = tt;
    laid = claimed_laid key words c (x.high + 1) below empty S r.laid;
    placed = λ d y there. placed_claimed key words c (x.high + 1) below empty S r.laid (pair_of key y) d (r.placed d y there);
    waiting = waiting_then;
    saw = λ d m has.
        elim (Contains-push_cases v.dues.seen (record { cell = c; word = x.high + 1 }) (record { cell = d; word = m }) has) [
          | inl before ↦ true_stays key words c (x.high + 1) below empty d m (saw_now r id v at live d m before)
          | inr same ↦ subst (λ (z : Seen). IsTrue key words' z.cell z.word) same (below, here_now, (λ z. omega arith))
        ];
    stay = true_stays key words c (x.high + 1) below empty;
    owing = owing_now r id v at live;
    covered = covered_now r id v at live;
    counted = λ weigh. refl;
  }

-- what the table asks of the exchange
module _ (key : WideWorldType) (slots id : ℕ) (me : Me Unit WideView) (live : 0 < me.0.stake) (c : ℕ) (below : c < cell_count me.0.world) (x : WideCode) (idle : me.0.dues.pending ≡ None) where
  abbrev rule : TableState Unit WideView → Type 0
  rule s = IsRunning key s.words s.views

  abbrev any : Step Unit
  any = step 0 0 0 0 none

  module _ (s : TableState Unit WideView) (r : IsRunning key s.words s.views) (at : get_elem? s.views id ≡ some me.0) where
    abbrev found : ℕ
    found = first_word s.words c

    in_table : c < cell_count key
    in_table = subst (λ (w : WideWorldType). c < cell_count w) (fits_here r id me.0 at live).world_is below

    as_seen : IsAsSeen me.0 c found
    as_seen = record { as_seen = λ m has. (saw_now r id me.0 at live c m has).1 }

    abbrev Answer : ℕ → Type 0
    Answer word = (w : WideView) × (a : TableAct Unit) × Valid s.homes me.1 a × IsRunning key (set s.words (first_index c) word) (set s.views id w) × first_claimed c x any me found (w, carried_after me.1 a)

    own_is : (b : Bool) → (found == 0) ≡ b → (if b then claimed c x me.0.dues else with_seen c found me.0.dues) ≡ tried c x found me.0.dues
    own_is b e = ap (λ (z : Bool). if z then claimed c x me.0.dues else with_seen c found me.0.dues) (sym e)

    won : found ≡ 0 → Answer (x.high + 1)
    won zero_found =
        let m = claims r id me.0 at live c x in_table idle zero_found in
        let dues = claimed c x me.0.dues in
        let next = advanced me.0 r.history [] dues in
        let words' = set s.words (first_index c) (x.high + 1) in (
          next,
          keeps,
          tt,
          advance r id me.0 at live [] dues words' m,
          (refl, subst (λ (o : WideDues). Advances me.0 next [] o) (own_is true (eq-eqb found 0 zero_found)) (tells r id me.0 at live [] dues words' m), as_seen),
        )

    lost : found ≢ 0 → Answer found
    lost ne =
        let dues = with_seen c found me.0.dues in
        let words' = set s.words (first_index c) found in
        let m = quiet r id me.0 at live [] dues words' (set-get_or s.words (first_index c) 0) refl tt refl (λ d e. inr e) (seen_more r id me.0 at live c found (in_table, refl, ne)) in
        let next = advanced me.0 r.history [] dues in (
          next,
          keeps,
          tt,
          advance r id me.0 at live [] dues words' m,
          (refl, subst (λ (o : WideDues). Advances me.0 next [] o) (own_is false (ne_eqb found 0 ne)) (tells r id me.0 at live [] dues words' m), as_seen),
        )

  pub claims_first : Allows rule slots id me (first_index c) (λ n. either (eqb n 0) (x.high + 1) n) (first_claimed c x any me)
  claims_first s r homes at fit = exchanged (first_word s.words c) 0 (x.high + 1) (Answer s r at) (won s r at) (lost s r at)

-- A seat takes in another: the rule holds of the view that is made of both.
use Rattle.std.proofs.Common.{◌≡◌, ◌≢◌, refl, sym, subst, ◌∙◌, ℕ, ◌<◌, ◌⊎◌, inl, inr, ⊎_elim, nat_eq, if◌then◌else◌, List, [], set, Contains, length-append, arith}
use Rattle.std.proofs.lemmas.Grind.{common_steps}
use Rattle.std.proofs.lemmas.List.{set-get_or}
use Rattle.std.proofs.lemmas.List.Elements.{Contains-append_left, Contains-append_right, Contains-append_cases}
use mathlib.Core.Option.{some}
use lib.ListN.{get_elem?}
use Rattle.atomic_table.specs.Table.{Joins, Allows, Me, keeps}
use Rattle.atomic_table.proofs.Lists.{set_else}
use Rattle.tensor_words.specs.Worlds.{WorldType}
use Rattle.graph_history.specs.declared.event.Event.{Event}
use Rattle.graph_history.specs.declared.view.Dues.{Dues}
use Rattle.graph_history.specs.Views.{View}
use Rattle.graph_history.specs.History.{State, state_of, caller_of}
use Rattle.graph_history.proofs.CellLists.{distinct_both}
use Rattle.shared_seats.proofs.Joining.{from_v, from_w, first_at, each, still, joins_up}
use Rattle.graph_rule.specs.Rule.{whole, debts_of, IsUnpaid, IsPrefix, IsDues, Owes, IsRunning}
use Rattle.graph_rule.specs.Told.{advanced, Advances}
use Rattle.graph_rule.specs.Parting.{both_dues, joined, nobody}
use Rattle.graph_rule.proofs.Views.{some_prefix}
use Rattle.graph_rule.proofs.Advance.{Moves, advance, tells}
use Rattle.graph_rule.proofs.CellSteps.{still as stays_still}
use Rattle.graph_rule.proofs.Sums.{due_live, due_spent, debts-set}

-- what is owed in a state is owed in a later one
dues_later : (f g : List Event) (d : Dues) → IsPrefix f g → IsDues (state_of f) d → IsDues (state_of g) d
dues_later f g d p D = record {
  owed = λ c h. some_prefix f g c p (D.owed c h);
  among = D.among;
  once = D.once;
  pledge = D.pledge;
}

both_owed : (s : State) (d e : Dues) → IsDues s d → IsDues s e → e.pledge ≡ 0 → ((c : ℕ) → Contains d.unpaid c → Contains e.unpaid c → ⊥) → IsDues s (both_dues d e)
both_owed s d e D E none apart = record {
  owed = λ c h. ⊎_elim (λ k. D.owed c k) (λ k. E.owed c k) (Contains-append_cases d.owed e.owed c h);
  among = λ c h.
      ⊎_elim (λ k. Contains-append_left d.owed e.owed c (D.among c k)) (λ k. Contains-append_right d.owed e.owed c (E.among c k))
      (Contains-append_cases d.unpaid e.unpaid c h);
  once = distinct_both d.unpaid e.unpaid D.once E.once apart;
  pledge = let small = D.pledge in omega arith;
}

-- who pays a cell, once the seat id has taken in another
abbrev taken_over : (ℕ → ℕ) → ℕ → ℕ → ℕ → ℕ
taken_over payer id other c = if nat_eq (payer c) other then id else payer c

taken_other : (payer : ℕ → ℕ) (id other c j : ℕ) → payer c ≡ j → j ≢ other → taken_over payer id other c ≡ j
taken_other payer id other c j is apart = grind (arith, common_steps)

taken_here : (payer : ℕ → ℕ) (id other c : ℕ) → payer c ≡ other → taken_over payer id other c ≡ id
taken_here payer id other c is = grind (arith, common_steps)

module _ (key : WorldType) (words : List ℕ) (views : List View) (R : IsRunning key words views) (id : ℕ) (v : View) (at : get_elem? views id ≡ some v) (live : 0 < v.stake)
    (other : ℕ) (w : View) (at_other : get_elem? views other ≡ some w) (live_other : 0 < w.stake) (apart : other ≢ id) (none : w.dues.pledge ≡ 0) where
  abbrev both : View
  both = joined v w

  abbrev first : List View
  first = set views id both

  abbrev merged : List View
  merged = set first other nobody

  abbrev payer : ℕ → ℕ
  payer = taken_over R.payer id other

  mine : Owes R.payer id v
  mine = R.owing id v at live

  theirs : Owes R.payer other w
  theirs = R.owing other w at_other live_other

  both_owe : Owes payer id both
  both_owe = record {
    dues = both_owed (state_of both.front) v.dues w.dues
        (dues_later v.front both.front v.dues (from_v whole caller_of key views R.history R.seated id v at live other w at_other live_other apart both_dues nobody refl) mine.dues)
        (dues_later w.front both.front w.dues (from_w whole caller_of key views R.history R.seated id v at live other w at_other live_other apart both_dues nobody refl) theirs.dues)
        none (λ c p q. apart (sym (theirs.pays c q) ∙ mine.pays c p));
    pays = λ c h.
        ⊎_elim (λ p. taken_other R.payer id other c id (mine.pays c p) (λ e. apart (sym e))) (λ q. taken_here R.payer id other c (theirs.pays c q))
        (Contains-append_cases v.dues.unpaid w.dues.unpaid c h);
  }

  others_owe : (j : ℕ) (u : View) → get_elem? views j ≡ some u → j ≢ other → 0 < u.stake → Owes payer j u
  others_owe j u there away alive =
      let o = R.owing j u there alive in
      record { dues = o.dues; pays = λ c got. taken_other R.payer id other c j (o.pays c got) away }

  merged_counted : debts_of merged ≡ debts_of views
  merged_counted =
      let a = debts-set first other w nobody (first_at whole caller_of key views R.history R.seated id v at live other w at_other live_other apart both_dues nobody refl) in
      let b = debts-set views id v both at in
      let c = due_live v live in let d = due_live w live_other in let e = due_live both (omega arith) in let f = due_spent nobody refl in
      omega (arith, length-append v.dues.unpaid w.dues.unpaid)

  merged_unpaid : (c : ℕ) → IsUnpaid views c → IsUnpaid merged c
  merged_unpaid c owed =
      still whole caller_of key views R.history R.seated id v at live other w at_other live_other apart both_dues nobody refl (λ u. Contains u.dues.unpaid c)
      (Contains-append_left v.dues.unpaid w.dues.unpaid c) (Contains-append_right v.dues.unpaid w.dues.unpaid c) owed

  pub joins : IsRunning key words merged
  joins = record {
    history = R.history;
    seated = joins_up whole caller_of key views R.history R.seated id v at live other w at_other live_other apart both_dues nobody refl;
    payer = payer;
    world = R.world;
    legal = R.legal;
    laid = R.laid;
    placed = R.placed;
    owing = each whole caller_of key views R.history R.seated id v at live other w at_other live_other apart both_dues nobody refl (λ j u. Owes payer j u) both_owe others_owe;
    counted = R.counted ∙ sym merged_counted;
    covered = λ c x h. ⊎_elim (λ all. inl all) (λ some_one. inr (merged_unpaid c some_one)) (R.covered c x h);
  }

-- a seat may always take in another whose pledge is 0
pub join_allowed : (key : WorldType) (id : ℕ) (v : View) (other : ℕ) (w : View) → 0 < v.stake → 0 < w.stake → w.dues.pledge ≡ 0
    → Joins {S = Unit} (λ s. IsRunning key s.words s.views) id v other w (joined v w) nobody
join_allowed key id v other w live live_other none s R at apart at_other =
    let there : get_elem? s.views other ≡ some w = sym (set_else s.views id other (joined v w) apart) ∙ at_other in
    joins key s.words s.views R id v at live other w there live_other apart none

-- a load that takes in the whole history, by any live seat
pub meet_allowed : (key : WorldType) (slots id : ℕ) (me : Me Unit View) (i : ℕ) → 0 < me.0.stake
    → Allows {S = Unit} (λ s. IsRunning key s.words s.views) slots id me i (λ n. n) (λ n w. (w.1 ≡ me.1) × Advances me.0 w.0 [] me.0.dues)
meet_allowed key slots id me i live s R homes at small =
    let v : View = me.0 in
    let m : Moves R id v at live [] v.dues s.words = stays_still R id v at live [] s.words refl refl tt in
    let next = advance R id v at live [] v.dues s.words m in (
      advanced v R.history [] v.dues,
      keeps,
      tt,
      subst (λ (words : List ℕ). IsRunning key words (set s.views id (advanced v R.history [] v.dues))) (sym (set-get_or s.words i 0)) next,
      (refl, tells R id v at live [] v.dues s.words m),
    )

-- The steps on word 0, the number of debts.
use Rattle.std.proofs.Common.{◌≡◌, refl, sym, ap, subst, ◌∙◌, ℕ, ◌+◌, ◌-◌, ◌%◌, ◌^◌, ◌<◌, ◌≤◌, ◌⊎◌, inl, inr, Bool, true, false, not, nat_eq, eqb-true, List, [], ◌∷◌, length, set, slice_index, Option, Some, None, Contains, arith}
use Rattle.std.proofs.lemmas.List.{set-get_or, get_or-set_same, get_or-set_other, length-set}
use mathlib.Core.Option.{some, none}
use lib.ListN.{get_elem?}
use Rattle.atomic_table.specs.Table.{State as TableState, Me, Step, step, Allows, keeps}
use Rattle.list_facts.proofs.Lists.{filter_keeps}
use Rattle.tensor_words.specs.Worlds.{WorldType, most_cells}
use Rattle.graph_history.specs.declared.event.Act.{Act}
use Rattle.graph_history.specs.declared.event.Act.TheVariants.{Owed, Settled, Tally}
use Rattle.graph_history.specs.declared.view.Dues.{Dues}
use Rattle.graph_history.specs.Views.{View}
use Rattle.graph_history.specs.History.{State, after, state_of, HasVertex, IsWhole, LegalFrom}
use Rattle.graph_history.specs.Desks.{by}
use Rattle.graph_rule.specs.Layout.{IsLaid}
use Rattle.graph_rule.specs.Rule.{whole, IsDues, IsRunning}
use Rattle.graph_rule.specs.Told.{advanced, Advances, pledged, unpledged, paid, owes, releases, pays, tallied}
use Rattle.graph_history.proofs.CellLists.{part_of, distinct_part, one_less}
use Rattle.graph_rule.proofs.Views.{whole_stays, state_more}
use Rattle.graph_rule.proofs.Advance.{Elsewhere, Moves, fits_here, owes_here, open_now, advance, tells}
use Rattle.graph_rule.proofs.CellSteps.{front_stays, dues_now, still}
use Rattle.graph_rule.proofs.Spare.{spare, debts_few}

-- the words after the number of debts changed
relaid : (w : WorldType) (words : List ℕ) (s : State) (k : ℕ) → IsLaid w words s → IsLaid w (set words 0 k) (record s { debts = k })
relaid w words s k L = record {
  count = length-set words 0 k ∙ L.count;
  debts = get_or-set_same words 0 k 0 (omega (arith, L.count));
  cells = λ c below. get_or-set_other words 0 (1 + c) k 0 (λ z. omega arith) ∙ L.cells c below;
  edges = λ c a below is. get_or-set_other words 0 _ k 0 (λ z. omega arith) ∙ L.edges c a below is;
}

module _ {key : WorldType} {words : List ℕ} {views : List View} (r : IsRunning key words views) (id : ℕ) (v : View) (at : get_elem? views id ≡ some v) (live : 0 < v.stake) where
  abbrev S : State
  S = state_of r.history

  -- no more debts than cells and stakes, far below where a word would wrap
  debts_below : S.debts ≤ key.cells + whole
  debts_below = let few = debts_few r in omega (arith, r.counted)

  cells_few : key.cells ≤ most_cells
  cells_few = r.world.few

  -- an act that changes the number of debts alone
  changes : (act : Act) (d : Dues) (k : ℕ) → after S act ≡ record S { debts = k } → LegalFrom key S (by v.number (act ∷ [])) → IsDues S d
      → ((c : ℕ) → Contains d.unpaid c → Contains v.dues.unpaid c) → k + (length v.dues.unpaid + v.dues.pledge) ≡ S.debts + (length d.unpaid + d.pledge)
      → ((c x : ℕ) → HasVertex S c x → IsWhole key S c ⊎ (Elsewhere r id v at live c ⊎ Contains d.unpaid c))
      → Moves r id v at live (act ∷ []) d (set words 0 k)
  changes act d k same legal dues fewer counted open_ = record {
    payer = r.payer;
    legal = legal;
    dues = subst (λ (s : State). IsDues s d) (sym same) (record { owed = dues.owed; among = dues.among; once = dues.once; pledge = dues.pledge });
    mine = λ c has. (owes_here r id v at live).pays c (fewer c has);
    rest = λ c there. refl;
    counted = ap (λ (s : State). s.debts + (length v.dues.unpaid + v.dues.pledge)) same ∙ counted;
    laid = subst (λ (s : State). IsLaid key (set words 0 k) s) (sym same) (relaid key words S k r.laid);
    placed = λ c x there.
        subst (λ (s : State). Rattle.graph_rule.specs.Layout.IsPlaced key s c x) (sym same)
        (let p = r.placed c x (subst (λ (s : State). HasVertex s c x) same there) in record { steps = p.steps; short = p.short; at = p.at; before = p.before });
    covered = λ c x there.
        subst (λ (s : State). IsWhole key s c ⊎ (Elsewhere r id v at live c ⊎ Contains d.unpaid c)) (sym same)
        (open_ c x (subst (λ (s : State). HasVertex s c x) same there));
  }

  pub owed : v.dues.pledge ≡ 0 → Moves r id v at live (Owed ∷ []) (pledged v.dues) (set words 0 (S.debts + 1))
  owed free =
      let D = dues_now r id v at live in
      changes Owed (pledged v.dues) (S.debts + 1) refl (tt, tt) (record { owed = D.owed; among = D.among; once = D.once; pledge = omega arith })
      (λ c has. has) (omega arith) (open_now r id v at live)

  pub released : v.dues.pledge ≡ 1 → Moves r id v at live (Settled None ∷ []) (unpledged v.dues) (set words 0 (S.debts - 1))
  released held =
      let D = dues_now r id v at live in
      let enough = spare r id v at live (unpledged v.dues) (omega arith) (open_now r id v at live) in
      changes (Settled None) (unpledged v.dues) (S.debts - 1) refl (record { spare = enough; payable = tt }, tt)
      (record { owed = D.owed; among = D.among; once = D.once; pledge = omega arith }) (λ c has. has) (omega arith) (open_now r id v at live)

  module _ (c : ℕ) (has : Contains v.dues.unpaid c) (done : IsWhole key S c) where
    -- the cell apart, what is open stays open
    open_still : (e x : ℕ) → HasVertex S e x → IsWhole key S e ⊎ (Elsewhere r id v at live e ⊎ Contains (paid c v.dues).unpaid e)
    open_still e x there = by_now (open_now r id v at live e x there)
      where
        own : Contains v.dues.unpaid e → (b : Bool) → nat_eq c e ≡ b → IsWhole key S e ⊎ (Elsewhere r id v at live e ⊎ Contains (paid c v.dues).unpaid e)
        own in_it true is = inl (subst (λ (k : ℕ). IsWhole key S k) (eqb-true c e is) done)
        own in_it false is = inr (inr (filter_keeps (λ d. not (nat_eq c d)) v.dues.unpaid e in_it (ap not is)))

        by_now : IsWhole key S e ⊎ (Elsewhere r id v at live e ⊎ Contains v.dues.unpaid e) → IsWhole key S e ⊎ (Elsewhere r id v at live e ⊎ Contains (paid c v.dues).unpaid e)
        by_now (inl all) = inl all
        by_now (inr (inl other)) = inr (inl other)
        by_now (inr (inr in_it)) = own in_it (nat_eq c e) refl

    pub settled : Moves r id v at live (Settled (Some c) ∷ []) (paid c v.dues) (set words 0 (S.debts - 1))
    settled =
        let D = dues_now r id v at live in
        let less = one_less v.dues.unpaid c D.once has in
        let enough = spare r id v at live (paid c v.dues) (omega arith) open_still in
        changes (Settled (Some c)) (paid c v.dues) (S.debts - 1) refl (record { spare = enough; payable = (D.owed c (D.among c has), done) }, tt)
        (record {
          owed = D.owed;
          among = λ e in_it. D.among e (part_of (λ d. not (nat_eq c d)) v.dues.unpaid e in_it).0;
          once = distinct_part (λ d. not (nat_eq c d)) v.dues.unpaid D.once;
          pledge = D.pledge;
        })
        (λ e in_it. (part_of (λ d. not (nat_eq c d)) v.dues.unpaid e in_it).0) (omega arith) open_still

  -- what word 0 becomes
  one_more : (n : ℕ) → n ≡ S.debts → (n + 1) % 2 ^ 64 ≡ S.debts + 1
  one_more n is = let most = debts_below in let few = cells_few in omega arith

  one_less_word : (n : ℕ) → n ≡ S.debts → n < 2 ^ 64 → 0 < S.debts → (n + (2 ^ 64 - 1)) % 2 ^ 64 ≡ S.debts - 1
  one_less_word n is below owed_some = omega arith

-- what the table asks of the steps
module _ (key : WorldType) (slots id : ℕ) (me : Me Unit View) (live : 0 < me.0.stake) where
  abbrev rule : TableState Unit View → Type 0
  rule s = IsRunning key s.words s.views

  abbrev any : Step Unit
  any = step 0 0 0 0 none

  pub tallies : Allows rule slots id me 0 (λ n. n) (tallied any me)
  tallies s r homes at fit =
      let n = slice_index s.words 0 in
      let acts = Tally n ∷ [] in
      let m = still r id me.0 at live acts (set s.words 0 n) refl (set-get_or s.words 0 0) (r.laid.debts, tt) in
      let same = ap (λ (t : State). t.debts) (state_more r.history me.0.number acts) in (
        advanced me.0 r.history acts me.0.dues,
        keeps,
        tt,
        advance r id me.0 at live acts me.0.dues (set s.words 0 n) m,
        (
          refl,
          tells r id me.0 at live acts me.0.dues (set s.words 0 n) m,
          r.laid.debts ∙ sym same,
          subst (λ (w : WorldType). n ≤ w.cells + whole) (sym (fits_here r id me.0 at live).world_is) (let most = debts_below r id me.0 at live in omega (arith, r.laid.debts)),
        ),
      )

  pub owing : me.0.dues.pledge ≡ 0 → Allows rule slots id me 0 (λ n. (n + 1) % 2 ^ 64) (owes any me)
  owing free s r homes at fit =
      let n = slice_index s.words 0 in
      let becomes = one_more r id me.0 at live n r.laid.debts in
      let m = owed r id me.0 at live free in
      let next = advanced me.0 r.history (Owed ∷ []) (pledged me.0.dues) in (
        next,
        keeps,
        tt,
        subst (λ (k : ℕ). IsRunning key (set s.words 0 k) (set s.views id next)) (sym becomes) (advance r id me.0 at live (Owed ∷ []) (pledged me.0.dues) (set s.words 0 ((state_of r.history).debts + 1)) m),
        (refl, tells r id me.0 at live (Owed ∷ []) (pledged me.0.dues) (set s.words 0 ((state_of r.history).debts + 1)) m),
      )

  -- a step that takes a debt off
  taking : (paid_cell : Option ℕ) (d : Dues) → ((words : List ℕ) (views : List View) (r : IsRunning key words views) (at : get_elem? views id ≡ some me.0) → Moves r id me.0 at live (Settled paid_cell ∷ []) d (set words 0 ((state_of r.history).debts - 1)))
      → Allows rule slots id me 0 (λ n. (n + (2 ^ 64 - 1)) % 2 ^ 64) (λ found new. (new.1 ≡ me.1) × Advances me.0 new.0 (Settled paid_cell ∷ []) d)
  taking paid_cell d moves s r homes at fit =
      let n = slice_index s.words 0 in
      let m = moves s.words s.views r at in
      let some_debt : 0 < (state_of r.history).debts = let enough = m.legal.0.spare in omega arith in
      let becomes = one_less_word r id me.0 at live n r.laid.debts fit some_debt in
      let next = advanced me.0 r.history (Settled paid_cell ∷ []) d in (
        next,
        keeps,
        tt,
        subst (λ (k : ℕ). IsRunning key (set s.words 0 k) (set s.views id next)) (sym becomes) (advance r id me.0 at live (Settled paid_cell ∷ []) d (set s.words 0 ((state_of r.history).debts - 1)) m),
        (refl, tells r id me.0 at live (Settled paid_cell ∷ []) d (set s.words 0 ((state_of r.history).debts - 1)) m),
      )

  pub releasing : me.0.dues.pledge ≡ 1 → Allows rule slots id me 0 (λ n. (n + (2 ^ 64 - 1)) % 2 ^ 64) (releases any me)
  releasing held = taking None (unpledged me.0.dues) (λ words views r at. released r id me.0 at live held)

  pub paying : (c : ℕ) → Contains me.0.dues.unpaid c → IsWhole me.0.world (state_of me.0.front) c → Allows rule slots id me 0 (λ n. (n + (2 ^ 64 - 1)) % 2 ^ 64) (pays c any me)
  paying c has done =
      taking (Some c) (paid c me.0.dues)
      (λ words views r at.
      let w = (fits_here r id me.0 at live).world_is in
      settled r id me.0 at live c has
      (whole_stays key (state_of me.0.front) (state_of r.history) c (front_stays r id me.0 at live) (subst (λ (u : WorldType). IsWhole u (state_of me.0.front) c) w done)))

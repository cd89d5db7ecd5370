-- One seat takes a step: the rule holds again, and the seat knows what the step tells.
use Rattle.std.proofs.Common.{◌≡◌, ◌≢◌, sym, ap, subst, ◌∙◌, ℕ, ◌+◌, ◌<◌, ◌⊎◌, inl, inr, List, ◌++◌, length, set, Contains, arith}
use mathlib.Core.Option.{some}
use lib.ListN.{get_elem?}
use Rattle.list_facts.proofs.Lists.{at_here}
use Rattle.tensor_words.specs.Worlds.{WorldType, IsWorld}
use Rattle.graph_history.specs.declared.event.Act.{Act}
use Rattle.graph_history.specs.declared.event.Event.{Event}
use Rattle.graph_history.specs.declared.view.Dues.{Dues}
use Rattle.graph_history.specs.Views.{View}
use Rattle.graph_history.specs.History.{State, state_from, state_of, HasVertex, HasSome, IsWhole, LegalFrom, IsLegal, caller_of}
use Rattle.graph_history.specs.Desks.{by}
use Rattle.graph_history.proofs.Growing.{calls_by, calls_other}
use Rattle.shared_seats.specs.Seats.{IsSeated, Fits}
use Rattle.shared_seats.proofs.Steps.{Elsewhere as HasElsewhere, here_or_elsewhere, live_then, is_own, steps, each, unseen, unseen_is, silent, nobody_else, all_seen}
use Rattle.graph_rule.specs.Layout.{IsLaid, IsPlaced}
use Rattle.graph_rule.specs.Rule.{whole, IsDues, IsKnown, Completes, debts_of, due, IsUnpaid, Owes, IsRunning}
use Rattle.graph_rule.specs.Told.{advanced, Advances}
use Rattle.graph_rule.proofs.Views.{some_prefix, legal_more, state_more}
use Rattle.graph_rule.proofs.Sums.{due_live, debts-set, debts_alone}

-- the whole stake teaches that the front is the history and all debts are one's own
module _ {key : WorldType} {words : List ℕ} {views : List View} (r : IsRunning key words views) (id : ℕ) (v : View) (at : get_elem? views id ≡ some v) (all : v.stake ≡ whole) where
  live : 0 < v.stake
  live = omega arith

  front_is_all : v.front ≡ r.history
  front_is_all = sym (all_seen whole caller_of key views r.history r.seated id v at live all)

  world_is : v.world ≡ key
  world_is = (r.seated.fits id v at live).world_is

  pub completes : Completes v
  completes = record {
    vertices = λ c x there.
        let inside = subst (λ (h : List Event). HasVertex (state_of h) c x) front_is_all there in
        subst (λ (h : List Event). IsWhole v.world (state_of h) c ⊎ Contains v.dues.unpaid c) (sym front_is_all)
        (subst (λ (w : WorldType). IsWhole w (state_of r.history) c ⊎ Contains v.dues.unpaid c) (sym world_is) (by_cases c (r.covered c x inside)));
    debts = ap (λ (h : List Event). (state_of h).debts) front_is_all ∙ r.counted ∙ debts_alone views id v at (all ∙ sym r.seated.staked) ∙ due_live v live;
  }
    where
      by_cases : (c : ℕ) → IsWhole key (state_of r.history) c ⊎ IsUnpaid views c → IsWhole key (state_of r.history) c ⊎ Contains v.dues.unpaid c
      by_cases c (inl h) = inl h
      by_cases c (inr h) = inr (is_own whole caller_of key views r.history r.seated id v at all (λ (u : View). Contains u.dues.unpaid c) h)

module _ {key : WorldType} {words : List ℕ} {views : List View} (r : IsRunning key words views) (id : ℕ) (v : View) (at : get_elem? views id ≡ some v) (live : 0 < v.stake) where
  -- another live view has the cell unpaid
  abbrev pub Elsewhere : ℕ → Type 0
  Elsewhere c = HasElsewhere views id (λ u. Contains u.dues.unpaid c)

  abbrev pub state_now : State
  state_now = state_of r.history

  abbrev pub state_then : List Act → State
  state_then acts = state_from state_now (by v.number acts)

  -- what each kind of step owes: these acts, after which the seat has the dues d, turn the words into words'
  pub record Moves (acts : List Act) (d : Dues) (words' : List ℕ) : Type 0 where
    pub payer : ℕ → ℕ
    pub legal : LegalFrom key state_now (by v.number acts)
    pub dues : IsDues (state_then acts) d
    pub mine : (c : ℕ) → Contains d.unpaid c → payer c ≡ id
    pub rest : (c : ℕ) → HasSome state_now c → payer c ≡ r.payer c
    pub counted : (state_then acts).debts + (length v.dues.unpaid + v.dues.pledge) ≡ state_now.debts + (length d.unpaid + d.pledge)
    pub laid : IsLaid key words' (state_then acts)
    pub placed : (c x : ℕ) → HasVertex (state_then acts) c x → IsPlaced key (state_then acts) c x
    pub covered : (c x : ℕ) → HasVertex (state_then acts) c x → IsWhole key (state_then acts) c ⊎ (Elsewhere c ⊎ Contains d.unpaid c)

  pub fits_here : Fits whole caller_of key r.seated.owner r.history id v
  fits_here = r.seated.fits id v at live

  pub owes_here : Owes r.payer id v
  owes_here = r.owing id v at live

  -- what is open, in the state of the whole history
  pub open_now : (c x : ℕ) → HasVertex state_now c x → IsWhole key state_now c ⊎ (Elsewhere c ⊎ Contains v.dues.unpaid c)
  open_now c x there = by_rule (r.covered c x there)
    where
      by_rule : IsWhole key state_now c ⊎ IsUnpaid views c → IsWhole key state_now c ⊎ (Elsewhere c ⊎ Contains v.dues.unpaid c)
      by_rule (inl done) = inl done
      by_rule (inr owed) = inr (here_or_elsewhere views id v at (λ u. Contains u.dues.unpaid c) owed)

  module _ (acts : List Act) (d : Dues) (words' : List ℕ) (m : Moves acts d words') where
    abbrev longer : List Event
    longer = r.history ++ by v.number acts

    abbrev next : View
    next = advanced v r.history acts d

    moved : state_of longer ≡ state_then acts
    moved = state_more r.history v.number acts

    seated_then : IsSeated whole caller_of key (set views id next) longer
    seated_then = steps whole caller_of key views r.history r.seated id v at live (by v.number acts) d (calls_by v.number acts) (λ n other. calls_other v.number n acts other)

    at_next : get_elem? (set views id next) id ≡ some next
    at_next = at_here views id v next at

    legal_then : IsLegal key longer
    legal_then = legal_more key r.history v.number acts r.legal m.legal

    dues_then : IsDues (state_of longer) d
    dues_then = subst (λ (s : State). IsDues s d) (sym moved) m.dues

    known_then : IsKnown next
    known_then = record {
      sound = (seated_then.fits id next at_next live).sound;
      world = subst (λ (w : WorldType). IsWorld w) (sym fits_here.world_is) r.world;
      legal = subst (λ (w : WorldType). IsLegal w longer) (sym fits_here.world_is) legal_then;
      dues = dues_then;
    }

    others_owe : (j : ℕ) (u : View) → get_elem? views j ≡ some u → j ≢ id → 0 < u.stake → Owes m.payer j u
    others_owe j u there ne alive =
        let o = r.owing j u there alive in
        record {
          dues = o.dues;
          pays = λ c has. m.rest c (some_prefix u.front r.history c (r.seated.fits j u there alive).front (o.dues.owed c (o.dues.among c has))) ∙ o.pays c has;
        }

    covered_then : (c x : ℕ) → HasVertex (state_of longer) c x → IsWhole key (state_of longer) c ⊎ IsUnpaid (set views id next) c
    covered_then c x there =
        let inside = subst (λ (s : State). HasVertex s c x) moved there in
        elim (m.covered c x inside) [
          | inl done ↦ inl (subst (λ (s : State). IsWhole key s c) (sym moved) done)
          | inr open_ ↦ inr (live_then views id v at (λ u. Contains u.dues.unpaid c) next live open_)
        ]

    counted_then : (state_of longer).debts ≡ debts_of (set views id next)
    counted_then =
        let now = ap (λ (s : State). s.debts) moved in
        let sums = debts-set views id v next at in
        let before = due_live v live in let after : due next ≡ length d.unpaid + d.pledge = due_live next live in
        omega (arith, m.counted, r.counted)

    pub advance : IsRunning key words' (set views id next)
    advance = record {
      history = longer;
      seated = seated_then;
      payer = m.payer;
      world = r.world;
      legal = legal_then;
      laid = subst (λ (s : State). IsLaid key words' s) (sym moved) m.laid;
      placed = λ c x there. subst (λ (s : State). IsPlaced key s c x) (sym moved) (m.placed c x (subst (λ (s : State). HasVertex s c x) moved there));
      owing = each whole caller_of key views r.history r.seated id v at live (by v.number acts) d (calls_by v.number acts) (λ n other. calls_other v.number n acts other)
          (λ j u. Owes m.payer j u) (record { dues = dues_then; pays = m.mine }) others_owe;
      counted = counted_then;
      covered = covered_then;
    }

    pub tells : Advances v next acts d
    tells = record {
      between = unseen whole caller_of key views r.history r.seated id v at live;
      is = ap (λ (h : List Event). advanced v h acts d) (sym (unseen_is whole caller_of key views r.history r.seated id v at live));
      quiet = silent whole caller_of key views r.history r.seated id v at live;
      alone = nobody_else whole caller_of key views r.history r.seated id v at live;
      known = known_then;
      complete = λ all. completes advance id next at_next all;
    }

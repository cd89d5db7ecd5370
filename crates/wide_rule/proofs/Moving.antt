-- One seat takes a step: the rule holds again, and the seat knows what the step tells.
use Rattle.std.proofs.Common.{◌≡◌, ◌≢◌, sym, ap, subst, ◌∙◌, ℕ, ◌+◌, ◌<◌, ◌⊎◌, inl, inr, List, ◌++◌, set, sum_by, Some, Contains, arith}
use mathlib.Core.Option.{some}
use lib.ListN.{get_elem?}
use Rattle.graph_history.specs.declared.event.Act.{Act}
use Rattle.graph_history.specs.declared.event.Event.{Event}
use Rattle.graph_history.specs.History.{State, empty_state, state_from, state_of, HasVertex, HasSome, IsWhole, caller_of}
use Rattle.graph_history.specs.Laws.{Stays}
use Rattle.graph_history.specs.Desks.{by}
use Rattle.graph_history.proofs.Growing.{calls_by, calls_other}
use Rattle.graph_rule.proofs.Views.{stays_prefix, some_stays, state_more}
use Rattle.shared_seats.specs.Seats.{IsSeated, Fits}
use Rattle.list_facts.proofs.Lists.{at_here}
use Rattle.shared_seats.proofs.Steps.{Elsewhere, here_or_elsewhere, live_then, is_own, steps, each, unseen, unseen_is, silent, nobody_else, all_seen}
use Rattle.wide_words.specs.WideHistory.{WideWorldType, IsWideWorld, flat, WideLegalFrom, IsWideLegal}
use Rattle.wide_words.proofs.WideSound.{wide_both}
use Rattle.wide_rule.specs.declared.dues.WideDues.{WideDues}
use Rattle.wide_rule.specs.Layout.{cell_count, first_word, pair_of, IsLaid, IsPlaced, HasSeen}
use Rattle.wide_rule.specs.Rule.{WideView, whole, cells_of, IsKnown, Completes, IsPending, IsOwed, due, dues_of, IsTrue, IsRunning}
use Rattle.wide_rule.specs.Told.{advanced, Advances}
use Rattle.wide_rule.proofs.Sums.{due_live, dues-set, dues_alone}

-- further acts are legal where they are legal in the state
legal_more : (w : WideWorldType) (h : List Event) (n : ℕ) (acts : List Act) → IsWideLegal w h → WideLegalFrom w (state_of h) (by n acts) → IsWideLegal w (h ++ by n acts)
unfolding IsWideLegal
legal_more w h n acts p q = wide_both w empty_state h (by n acts) p q

-- the whole stake teaches that the front is the history and all that is owed is one's own
module _ {key : WideWorldType} {words : List ℕ} {views : List WideView} (r : IsRunning key words views) (id : ℕ) (v : WideView) (at : get_elem? views id ≡ some v) (all : v.stake ≡ whole) where
  live : 0 < v.stake
  live = omega arith

  front_is_all : v.front ≡ r.history
  front_is_all = sym (all_seen whole caller_of key views r.history r.seated id v at live all)

  world_is : v.world ≡ key
  world_is = (r.seated.fits id v at live).world_is

  pub completes : Completes v
  completes = record {
    vertices = λ c x there.
        let inside = subst (λ (h : List Event). HasVertex (state_of h) c x) front_is_all there in
        subst (λ (h : List Event). IsWhole (flat v.world) (state_of h) c ⊎ Contains v.dues.owed c) (sym front_is_all)
        (subst (λ (w : WideWorldType). IsWhole (flat w) (state_of r.history) c ⊎ Contains v.dues.owed c) (sym world_is) (by_cases c (r.covered c x inside)));
    counted = λ weigh.
        sym (due_live weigh v live) ∙ sym (dues_alone weigh views id v at (all ∙ sym r.seated.staked)) ∙ r.counted weigh
        ∙ ap (λ (h : List Event). sum_by weigh (cells_of (state_of h))) (sym front_is_all);
  }
    where
      by_cases : (c : ℕ) → IsWhole (flat key) (state_of r.history) c ⊎ IsOwed views c → IsWhole (flat key) (state_of r.history) c ⊎ Contains v.dues.owed c
      by_cases c (inl h) = inl h
      by_cases c (inr h) = inr (is_own whole caller_of key views r.history r.seated id v at all (λ (u : WideView). Contains u.dues.owed c) h)

module _ {key : WideWorldType} {words : List ℕ} {views : List WideView} (r : IsRunning key words views) (id : ℕ) (v : WideView) (at : get_elem? views id ≡ some v) (live : 0 < v.stake) where
  abbrev pub state_now : State
  state_now = state_of r.history

  abbrev pub state_then : List Act → State
  state_then acts = state_from state_now (by v.number acts)

  pub fits_here : Fits whole caller_of key r.seated.owner r.history id v
  fits_here = r.seated.fits id v at live

  pub front_stays : Stays (state_of v.front) state_now
  front_stays = stays_prefix v.front r.history fits_here.front

  -- another live view has the cell pending, or owes it
  abbrev pub PendingElsewhere : ℕ → Type 0
  PendingElsewhere c = Elsewhere views id (λ u. u.dues.pending ≡ Some c)

  abbrev pub OwedElsewhere : ℕ → Type 0
  OwedElsewhere c = Elsewhere views id (λ u. Contains u.dues.owed c)

  -- what each kind of step owes: these acts, after which the seat has begun `dues`, turn the words into words'
  pub record Moves (acts : List Act) (dues : WideDues) (words' : List ℕ) : Type 0 where
    pub legal : WideLegalFrom key state_now (by v.number acts)
    pub laid : IsLaid key words' (state_then acts)
    pub placed : (c x : ℕ) → HasVertex (state_then acts) c x → IsPlaced key words' (state_then acts) (pair_of key x) c
    pub waiting : (c : ℕ) → c < cell_count key → first_word words' c ≢ 0 → HasSome (state_then acts) c ⊎ (PendingElsewhere c ⊎ (dues.pending ≡ Some c))
    pub saw : (c n : ℕ) → HasSeen dues.seen c n → IsTrue key words' c n
    pub stay : (c n : ℕ) → IsTrue key words c n → IsTrue key words' c n
    pub owing : (c : ℕ) → Contains dues.owed c → HasSome (state_then acts) c
    pub covered : (c x : ℕ) → HasVertex (state_then acts) c x → IsWhole (flat key) (state_then acts) c ⊎ (OwedElsewhere c ⊎ Contains dues.owed c)
    pub counted : (weigh : ℕ → ℕ) → sum_by weigh dues.owed + sum_by weigh (cells_of state_now) ≡ sum_by weigh v.dues.owed + sum_by weigh (cells_of (state_then acts))

  -- who waits and who owes, in the views before
  pub waiting_now : (c : ℕ) → c < cell_count key → first_word words c ≢ 0 → HasSome state_now c ⊎ (PendingElsewhere c ⊎ (v.dues.pending ≡ Some c))
  waiting_now c below some_word = by_rule (r.alone c below some_word)
    where
      by_rule : HasSome state_now c ⊎ IsPending views c → HasSome state_now c ⊎ (PendingElsewhere c ⊎ (v.dues.pending ≡ Some c))
      by_rule (inl there) = inl there
      by_rule (inr waits) = inr (here_or_elsewhere views id v at (λ u. u.dues.pending ≡ Some c) waits)

  pub covered_now : (c x : ℕ) → HasVertex state_now c x → IsWhole (flat key) state_now c ⊎ (OwedElsewhere c ⊎ Contains v.dues.owed c)
  covered_now c x there = by_rule (r.covered c x there)
    where
      by_rule : IsWhole (flat key) state_now c ⊎ IsOwed views c → IsWhole (flat key) state_now c ⊎ (OwedElsewhere c ⊎ Contains v.dues.owed c)
      by_rule (inl done) = inl done
      by_rule (inr owes) = inr (here_or_elsewhere views id v at (λ u. Contains u.dues.owed c) owes)

  pub owing_now : (c : ℕ) → Contains v.dues.owed c → HasSome state_now c
  owing_now c has = some_stays (state_of v.front) state_now c front_stays (r.owing id v at live c has)

  pub saw_now : (c n : ℕ) → HasSeen v.dues.seen c n → IsTrue key words c n
  saw_now = r.saw id v at live

  module _ (acts : List Act) (dues : WideDues) (words' : List ℕ) (m : Moves acts dues words') where
    abbrev events : List Event
    events = by v.number acts

    abbrev longer : List Event
    longer = r.history ++ events

    abbrev next : WideView
    next = advanced v r.history acts dues

    moved : state_of longer ≡ state_then acts
    moved = state_more r.history v.number acts

    seated_then : IsSeated whole caller_of key (set views id next) longer
    seated_then = steps whole caller_of key views r.history r.seated id v at live events dues (calls_by v.number acts) (λ n other. calls_other v.number n acts other)

    legal_then : IsWideLegal key longer
    legal_then = legal_more key r.history v.number acts r.legal m.legal

    at_next : get_elem? (set views id next) id ≡ some next
    at_next = at_here views id v next at

    owing_then : (c : ℕ) → Contains dues.owed c → HasSome (state_of longer) c
    owing_then c has = subst (λ (s : State). HasSome s c) (sym moved) (m.owing c has)

    waiting_then : (c : ℕ) → c < cell_count key → first_word words' c ≢ 0 → HasSome (state_of longer) c ⊎ IsPending (set views id next) c
    waiting_then c below some_word = by_step (m.waiting c below some_word)
      where
        by_step : HasSome (state_then acts) c ⊎ (PendingElsewhere c ⊎ (dues.pending ≡ Some c)) → HasSome (state_of longer) c ⊎ IsPending (set views id next) c
        by_step (inl there) = inl (subst (λ (s : State). HasSome s c) (sym moved) there)
        by_step (inr waits) = inr (live_then views id v at (λ u. u.dues.pending ≡ Some c) next live waits)

    covered_then : (c x : ℕ) → HasVertex (state_of longer) c x → IsWhole (flat key) (state_of longer) c ⊎ IsOwed (set views id next) c
    covered_then c x there = by_step (m.covered c x (subst (λ (s : State). HasVertex s c x) moved there))
      where
        by_step : IsWhole (flat key) (state_then acts) c ⊎ (OwedElsewhere c ⊎ Contains dues.owed c) → IsWhole (flat key) (state_of longer) c ⊎ IsOwed (set views id next) c
        by_step (inl done) = inl (subst (λ (s : State). IsWhole (flat key) s c) (sym moved) done)
        by_step (inr owes) = inr (live_then views id v at (λ u. Contains u.dues.owed c) next live owes)

    counted_then : (weigh : ℕ → ℕ) → dues_of weigh (set views id next) ≡ sum_by weigh (cells_of (state_of longer))
    counted_then weigh =
        let now = ap (λ (s : State). sum_by weigh (cells_of s)) moved in
        let sums = dues-set weigh views id v next at in
        let before = due_live weigh v live in let after : due weigh next ≡ sum_by weigh dues.owed = due_live weigh next live in
        let step = m.counted weigh in let old = r.counted weigh in
        omega arith

    known_then : IsKnown next
    known_then = record {
      sound = (seated_then.fits id next at_next live).sound;
      world = subst (λ (w : WideWorldType). IsWideWorld w) (sym fits_here.world_is) r.world;
      legal = subst (λ (w : WideWorldType). IsWideLegal w longer) (sym fits_here.world_is) legal_then;
      owed = owing_then;
    }

    pub advance : IsRunning key words' (set views id next)
    advance = record {
      history = longer;
      seated = seated_then;
      world = r.world;
      legal = legal_then;
      laid = subst (λ (s : State). IsLaid key words' s) (sym moved) m.laid;
      placed = λ c x there. subst (λ (s : State). IsPlaced key words' s (pair_of key x) c) (sym moved) (m.placed c x (subst (λ (s : State). HasVertex s c x) moved there));
      alone = waiting_then;
      saw = each whole caller_of key views r.history r.seated id v at live events dues (calls_by v.number acts) (λ n other. calls_other v.number n acts other)
          (λ j u. (c n : ℕ) → HasSeen u.dues.seen c n → IsTrue key words' c n) m.saw (λ j u there ne alive c n has. m.stay c n (r.saw j u there alive c n has));
      owing = each whole caller_of key views r.history r.seated id v at live events dues (calls_by v.number acts) (λ n other. calls_other v.number n acts other)
          (λ j u. (c : ℕ) → Contains u.dues.owed c → HasSome (state_of u.front) c) owing_then (λ j u there ne alive. r.owing j u there alive);
      covered = covered_then;
      counted = counted_then;
    }

    pub tells : Advances v next acts dues
    tells =
        let between = unseen whole caller_of key views r.history r.seated id v at live in
        record {
          between = between;
          is = ap (λ (h : List Event). advanced v h acts dues) (sym (unseen_is whole caller_of key views r.history r.seated id v at live));
          quiet = silent whole caller_of key views r.history r.seated id v at live;
          alone = nobody_else whole caller_of key views r.history r.seated id v at live;
          known = known_then;
          complete = λ all. completes advance id next at_next all;
        }

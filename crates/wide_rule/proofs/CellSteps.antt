-- The loads of cells' words.
use Rattle.std.proofs.Common.{◌≡◌, ◌≢◌, refl, sym, ap, subst, ◌∙◌, ℕ, ◌+◌, ◌<◌, ◌≤◌, ◌==◌, ◌⊎◌, inl, inr, Bool, true, false, if◌then◌else◌, List, [], ◌∷◌, length, set, sum_by, slice_index, Some, None, Contains, arith}
use Rattle.std.proofs.lemmas.Bool.{eqb-false}
use Rattle.std.proofs.lemmas.List.{set-get_or}
use Rattle.std.proofs.lemmas.List.Elements.{Contains-push_cases}
use mathlib.Core.Option.{some, none}
use lib.ListN.{get_elem?}
use Rattle.atomic_table.specs.Table.{State as TableState, Me, Step, step, Allows, keeps}
use Rattle.tensor_words.specs.Spaces.{size}
use Rattle.graph_history.specs.declared.event.Origin.{Origin}
use Rattle.graph_history.specs.declared.event.Act.{Act}
use Rattle.graph_history.specs.declared.event.Act.TheVariants.{Met, Missed, Spent}
use Rattle.graph_history.specs.History.{State, state_from, state_of, vertex_at, HasVertex, HasSome, IsNew, IsOrigin, IsWhole}
use Rattle.graph_history.specs.Laws.{Stays}
use Rattle.graph_history.specs.Desks.{by}
use Rattle.graph_rule.proofs.CellSteps.{probed_is, origin_stays}
use Rattle.graph_rule.proofs.Views.{state_more}
use Rattle.wide_words.specs.declared.spaces.WideCode.{WideCode}
use Rattle.wide_words.specs.WideSpaces.{IsWide, number}
use Rattle.wide_words.specs.WideHistory.{WideWorldType, flat, WideLegalFrom}
use Rattle.wide_words.proofs.WideCodes.{number_below}
use Rattle.wide_rule.specs.declared.dues.WideDues.{WideDues}
use Rattle.wide_rule.specs.declared.dues.Seen.{Seen}
use Rattle.wide_rule.specs.Layout.{cell_count, first_index, second_index, first_word, high_of, low_of, low_word, pair_of, cell_on, is_last, IsLaid, IsPlaced, HasSeen, IsPassed, IsSearched}
use Rattle.wide_rule.specs.Rule.{WideView, IsTrue, IsRunning}
use Rattle.wide_rule.specs.Told.{advanced, Advances, seek_first_acts, seek_second_acts, seek_room_first_acts, seek_room_second_acts, with_seen, saw, IsAsSeen, second_seen, first_sought, second_sought, first_sought_empty, second_sought_empty, meets}
use Rattle.wide_rule.proofs.Pairs.{low_number, same_number, low_none, low_some}
use Rattle.wide_rule.proofs.Deciding.{Passes, Searches, searches, IsFree, new_at, new_end, full_end}
use Rattle.wide_rule.proofs.Sums.{all_pending, pending_there, pending_most}
use Rattle.wide_rule.proofs.Moving.{fits_here, front_stays, PendingElsewhere, OwedElsewhere, Moves, waiting_now, covered_now, owing_now, saw_now, advance, tells}

-- a search stays one in a later state
pub searched_stays : (w : WideWorldType) (s t : State) (seen : List Seen) (x : WideCode) (c : ℕ) → Stays s t → IsSearched w s seen x c → IsSearched w t seen x c
searched_stays w s t seen x c stays q = record { steps = q.steps; short = q.short; at = q.at; before = λ k less. passed_stays (cell_on w x k) (q.before k less) }
  where
    passed_stays : (d : ℕ) → IsPassed w s seen x d → IsPassed w t seen x d
    passed_stays d (inl other) = inl other
    passed_stays d (inr (y, there, other)) = inr (y, stays.vertices d y there, other)

-- a step that leaves words and state, and what is owed
module _ {key : WideWorldType} {words : List ℕ} {views : List WideView} (r : IsRunning key words views) (id : ℕ) (v : WideView) (at : get_elem? views id ≡ some v) (live : 0 < v.stake) where
  abbrev S : State
  S = state_of r.history

  pub quiet : (acts : List Act) (dues : WideDues) (words' : List ℕ) → words' ≡ words → state_from S (by v.number acts) ≡ S → WideLegalFrom key S (by v.number acts)
      → dues.owed ≡ v.dues.owed → ((c : ℕ) → v.dues.pending ≡ Some c → HasSome S c ⊎ (dues.pending ≡ Some c)) → ((c n : ℕ) → HasSeen dues.seen c n → IsTrue key words c n)
      → Moves r id v at live acts dues words'
  quiet acts dues words' left same legal owed pending seen = subst (λ (l : List ℕ). Moves r id v at live acts dues l) (sym left) (record {
    legal = legal;
    laid = subst (λ (s : State). IsLaid key words s) (sym same) r.laid;
    placed = λ c x there. subst (λ (s : State). IsPlaced key words s (pair_of key x) c) (sym same) (r.placed c x (subst (λ (s : State). HasVertex s c x) same there));
    waiting = λ c below some_word. subst (λ (s : State). HasSome s c ⊎ (PendingElsewhere r id v at live c ⊎ (dues.pending ≡ Some c))) (sym same) (still_waiting c (waiting_now r id v at live c below some_word));
    saw = seen;
    stay = λ c n t. t;
    owing = λ c has. subst (λ (s : State). HasSome s c) (sym same) (owing_now r id v at live c (subst (λ (l : List ℕ). Contains l c) owed has));
    covered = λ c x there.
        subst (λ (s : State). IsWhole (flat key) s c ⊎ (OwedElsewhere r id v at live c ⊎ Contains dues.owed c)) (sym same)
        (subst (λ (l : List ℕ). IsWhole (flat key) S c ⊎ (OwedElsewhere r id v at live c ⊎ Contains l c)) (sym owed)
        (covered_now r id v at live c x (subst (λ (s : State). HasVertex s c x) same there)));
    counted = λ weigh. counts weigh;
  })
    where
      still_waiting : (c : ℕ) → HasSome S c ⊎ (PendingElsewhere r id v at live c ⊎ (v.dues.pending ≡ Some c)) → HasSome S c ⊎ (PendingElsewhere r id v at live c ⊎ (dues.pending ≡ Some c))
      still_waiting c (inl there) = inl there
      still_waiting c (inr (inl other)) = inr (inl other)
      still_waiting c (inr (inr mine)) = by (pending c mine)
        where
          by : HasSome S c ⊎ (dues.pending ≡ Some c) → HasSome S c ⊎ (PendingElsewhere r id v at live c ⊎ (dues.pending ≡ Some c))
          by (inl there) = inl there
          by (inr waits) = inr (inr waits)

      counts : (weigh : ℕ → ℕ) → sum_by weigh dues.owed + sum_by weigh (Rattle.wide_rule.specs.Rule.cells_of S) ≡ sum_by weigh v.dues.owed + sum_by weigh (Rattle.wide_rule.specs.Rule.cells_of (state_from S (by v.number acts)))
      counts weigh = λ i. sum_by weigh (owed i) + sum_by weigh (Rattle.wide_rule.specs.Rule.cells_of (sym same i))

  -- what was seen, with a word that stands there
  pub seen_more : (c n : ℕ) → IsTrue key words c n → (d m : ℕ) → HasSeen (with_seen c n v.dues).seen d m → IsTrue key words d m
  seen_more c n t d m has =
      elim (Contains-push_cases v.dues.seen (record { cell = c; word = n }) (record { cell = d; word = m }) has) [
        | inl before ↦ saw_now r id v at live d m before
        | inr same ↦ subst (λ (z : Seen). IsTrue key words z.cell z.word) same t
      ]

  pub seen_by : (c : ℕ) → c < cell_count key → (d m : ℕ) → HasSeen (saw c (first_word words c) v.dues).seen d m → IsTrue key words d m
  seen_by c below = by_test (first_word words c == 0) refl
    where
      by_test : (b : Bool) → (first_word words c == 0) ≡ b → (d m : ℕ) → HasSeen (if b then v.dues else with_seen c (first_word words c) v.dues).seen d m → IsTrue key words d m
      by_test true e d m has = saw_now r id v at live d m has
      by_test false e d m has = seen_more c (first_word words c) (below, refl, eqb-false (first_word words c) 0 e) d m has

-- after a load of a first word nothing is owed or pending but what was
owed_saw : (c n : ℕ) (dues : WideDues) → (saw c n dues).owed ≡ dues.owed
owed_saw c n dues = by (n == 0)
  where
    by : (b : Bool) → (if b then dues else with_seen c n dues).owed ≡ dues.owed
    by true = refl
    by false = refl

pending_saw : (c n : ℕ) (dues : WideDues) → (saw c n dues).pending ≡ dues.pending
pending_saw c n dues = by (n == 0)
  where
    by : (b : Bool) → (if b then dues else with_seen c n dues).pending ≡ dues.pending
    by true = refl
    by false = refl

-- what the table asks of a load that tells nothing
module _ (key : WideWorldType) (slots id : ℕ) (me : Me Unit WideView) (live : 0 < me.0.stake) (i : ℕ) where
  abbrev any : Step Unit
  any = step 0 0 0 0 none

  abbrev rule : TableState Unit WideView → Type 0
  rule s = IsRunning key s.words s.views

  left : (words : List ℕ) → set words i (slice_index words i) ≡ words
  left words = set-get_or words i 0

  pub meet_allowed : Allows rule slots id me i (λ n. n) (meets any me)
  meet_allowed s r homes at fit =
      let m = quiet r id me.0 at live [] me.0.dues (set s.words i (slice_index s.words i)) (left s.words) refl tt refl (λ c e. inr e) (saw_now r id me.0 at live) in (
        advanced me.0 r.history [] me.0.dues,
        keeps,
        tt,
        advance r id me.0 at live [] me.0.dues (set s.words i (slice_index s.words i)) m,
        (refl, tells r id me.0 at live [] me.0.dues (set s.words i (slice_index s.words i)) m),
      )

-- what the seat knows of a search, in the state of the whole history
module _ {key : WideWorldType} {words : List ℕ} {views : List WideView} (r : IsRunning key words views) (id : ℕ) (v : WideView) (at : get_elem? views id ≡ some v) (live : 0 < v.stake)
    (c : ℕ) (x : WideCode) (below : c < cell_count v.world) (is_wide : IsWide v.world.space x) (q : IsSearched v.world (state_of v.front) v.dues.seen x c) where
  abbrev T : State
  T = state_of r.history

  pub world_is : v.world ≡ key
  world_is = (fits_here r id v at live).world_is

  pub in_table : c < cell_count key
  in_table = subst (λ (w : WideWorldType). c < cell_count w) world_is below

  pub wide_here : IsWide key.space x
  wide_here = subst (λ (w : WideWorldType). IsWide w.space x) world_is is_wide

  pub code_below : number key.space x < size (flat key).space
  code_below = number_below key.space r.world.space x wide_here

  pub path_here : Searches key words T r.laid x wide_here c
  path_here =
      searches key words T r.laid x wide_here v.dues.seen (saw_now r id v at live) c
      (searched_stays key (state_of v.front) T v.dues.seen x c (front_stays r id v at live) (subst (λ (w : WideWorldType). IsSearched w (state_of v.front) v.dues.seen x c) world_is q))

  pub as_seen_here : IsAsSeen v c (first_word words c)
  as_seen_here = record { as_seen = λ m has. (saw_now r id v at live c m has).1 }

  -- a free cell, and the last cell with another pair, show that the pair is new; the last cell shows that the table is full
  pub new_here : IsFree key words T r.laid x wide_here c → IsNew T (number key.space x)
  new_here free = new_at key words T r.laid x wide_here r.placed c path_here free

  pub new_last : Passes key words T r.laid x wide_here c → is_last key x c ≡ true → IsNew T (number key.space x)
  new_last here last = new_end key words T r.laid x wide_here r.placed c path_here here last

  pub full_last : Passes key words T r.laid x wide_here c → is_last key x c ≡ true → key.capacity ≤ length T.vertices
  full_last here last =
      let most = pending_most views in
      let all = r.seated.staked in
      let full = full_end key words T r.laid x wide_here c path_here (all_pending views) waits here last r.placed in omega arith
    where
      waits : (d : ℕ) → d < cell_count key → first_word words d ≢ 0 → HasSome T d ⊎ Contains (all_pending views) d
      waits d low some_word = by (r.alone d low some_word)
        where
          by : HasSome T d ⊎ Rattle.wide_rule.specs.Rule.IsPending views d → HasSome T d ⊎ Contains (all_pending views) d
          by (inl there) = inl there
          by (inr pending) = inr (pending_there views d pending)

  -- at a cell with the pair's own half: its second word
  module _ (half : HasSeen v.dues.seen c (x.high + 1)) where
    pub own_half : first_word words c ≡ x.high + 1
    own_half = (saw_now r id v at live c (x.high + 1) half).1

    pub read_second : slice_index words (second_index c) ≡ low_word key (vertex_at T.vertices c)
    read_second = r.laid.lows c in_table

    pub empty_second : slice_index words (second_index c) ≡ 0 → vertex_at T.vertices c ≡ None
    empty_second e = low_none key (vertex_at T.vertices c) (sym read_second ∙ e)

    pub free_second : slice_index words (second_index c) ≡ 0 → IsFree key words T r.laid x wide_here c
    free_second e = inr (own_half, empty_second e)

    pub full_second : slice_index words (second_index c) ≢ 0 → (y : ℕ) × HasVertex T c y × (slice_index words (second_index c) ≡ low_of key y + 1)
    full_second ne = let o = low_some key (vertex_at T.vertices c) (λ z. ne (read_second ∙ z)) in (o.0, o.1, read_second ∙ o.2)

    pub met_second : slice_index words (second_index c) ≡ x.low + 1 → HasVertex T c (number key.space x)
    met_second e =
        let o = full_second (λ z. omega arith) in
        let low : low_of key o.0 ≡ x.low = let f = o.2 in omega arith in
        let first = r.laid.highs c o.0 o.1 in
        let high : high_of key o.0 ≡ x.high = let g = own_half in omega arith in
        subst (λ (z : ℕ). HasVertex T c z) (same_number key o.0 x high low) o.1

    pub other_second : slice_index words (second_index c) ≢ 0 → slice_index words (second_index c) ≢ x.low + 1 → Passes key words T r.laid x wide_here c
    other_second ne other =
        let o = full_second ne in
        let g = own_half in
        ((λ z. omega arith), inr (o.0, o.1, (λ z. other (o.2 ∙ ap (λ (k : ℕ). k + 1) (ap (low_of key) z ∙ low_number key x wide_here)))))

-- what the table asks of loads in search
module _ (key : WideWorldType) (slots id : ℕ) (me : Me Unit WideView) (live : 0 < me.0.stake) (c : ℕ) (below : c < cell_count me.0.world)
    (x : WideCode) (is_wide : IsWide me.0.world.space x) (q : IsSearched me.0.world (state_of me.0.front) me.0.dues.seen x c) where
  abbrev none_said : Step Unit
  none_said = step 0 0 0 0 none

  abbrev running : TableState Unit WideView → Type 0
  running s = IsRunning key s.words s.views

  -- a load of a first word with acts that leave the state
  module _ (s : TableState Unit WideView) (r : IsRunning key s.words s.views) (at : get_elem? s.views id ≡ some me.0) where
    abbrev first : ℕ
    first = first_word s.words c

    abbrev second : ℕ
    second = slice_index s.words (second_index c)

    abbrev now : State
    now = state_of r.history

    here_below : c < cell_count key
    here_below = in_table r id me.0 at live c x below is_wide q

    -- acts with the world of the view are those with the key
    at_key : (P : WideWorldType → Type 0) → P key → P me.0.world
    at_key P p = subst P (sym (world_is r id me.0 at live c x below is_wide q)) p

    first_moves : (acts : List Act) → state_from now (by me.0.number acts) ≡ now → WideLegalFrom key now (by me.0.number acts) → Moves r id me.0 at live acts (saw c first me.0.dues) (set s.words (first_index c) first)
    first_moves acts same legal =
        quiet r id me.0 at live acts (saw c first me.0.dues) (set s.words (first_index c) first) (set-get_or s.words (first_index c) 0) same legal
        (owed_saw c first me.0.dues) (λ d e. inr (pending_saw c first me.0.dues ∙ e)) (seen_by r id me.0 at live c here_below)

    second_moves : (acts : List Act) → state_from now (by me.0.number acts) ≡ now → WideLegalFrom key now (by me.0.number acts) → Moves r id me.0 at live acts me.0.dues (set s.words (second_index c) second)
    second_moves acts same legal =
        quiet r id me.0 at live acts me.0.dues (set s.words (second_index c) second) (set-get_or s.words (second_index c) 0) same legal refl (λ d e. inr e) (saw_now r id me.0 at live)

    missed : IsNew now (number key.space x) → WideLegalFrom key now (by me.0.number (Missed (number key.space x) ∷ []))
    missed fresh = (record { word = code_below r id me.0 at live c x below is_wide q; fresh = fresh }, tt)

    other_first : first ≢ 0 → first ≢ x.high + 1 → Passes key s.words now r.laid x (wide_here r id me.0 at live c x below is_wide q) c
    other_first ne other = (ne, inl other)

    first_sought_legal : WideLegalFrom key now (by me.0.number (seek_first_acts key c x first))
    first_sought_legal =
        probed_is (λ acts. WideLegalFrom key now (by me.0.number acts)) first (x.high + 1) (is_last key x c) (Missed (number key.space x) ∷ []) [] (Missed (number key.space x) ∷ [])
        (λ e. missed (new_here r id me.0 at live c x below is_wide q (inl e)))
        (λ ne e. tt)
        (λ ne other last. missed (new_last r id me.0 at live c x below is_wide q (other_first ne other) last))
        tt

    second_then : (acts : List Act) (dues : WideDues) → state_from now (by me.0.number acts) ≡ now → second ≡ second_seen (advanced me.0 r.history acts dues) c
    second_then acts dues same =
        r.laid.lows c here_below ∙ ap (λ (z : State). low_word key (vertex_at z.vertices c)) (sym (state_more r.history me.0.number acts ∙ same))
        ∙ ap (λ (w : WideWorldType). low_word w (vertex_at (state_of (advanced me.0 r.history acts dues).front).vertices c)) (sym (world_is r id me.0 at live c x below is_wide q))

    -- the acts of loads leave the state
    sought_first_still : (w : WideWorldType) (n word : ℕ) → state_from now (by n (seek_first_acts w c x word)) ≡ now
    sought_first_still w n word =
        probed_is (λ acts. state_from now (by n acts) ≡ now) word (x.high + 1) (is_last w x c) (Missed (number w.space x) ∷ []) [] (Missed (number w.space x) ∷ []) (λ e. refl) (λ ne e. refl) (λ ne f l. refl) refl

    sought_empty_first_still : (w : WideWorldType) (n word : ℕ) → state_from now (by n (seek_room_first_acts w c x word)) ≡ now
    sought_empty_first_still w n word =
        probed_is (λ acts. state_from now (by n acts) ≡ now) word (x.high + 1) (is_last w x c) [] [] (Spent (number w.space x) ∷ []) (λ e. refl) (λ ne e. refl) (λ ne f l. refl) refl

    sought_second_still : (w : WideWorldType) (n word : ℕ) → state_from now (by n (seek_second_acts w c x word)) ≡ now
    sought_second_still w n word =
        probed_is (λ acts. state_from now (by n acts) ≡ now) word (x.low + 1) (is_last w x c) (Missed (number w.space x) ∷ []) (Met c (number w.space x) ∷ []) (Missed (number w.space x) ∷ [])
        (λ e. refl) (λ ne e. refl) (λ ne f l. refl) refl

    sought_empty_second_still : (w : WideWorldType) (n word : ℕ) → state_from now (by n (seek_room_second_acts w c x word)) ≡ now
    sought_empty_second_still w n word =
        probed_is (λ acts. state_from now (by n acts) ≡ now) word (x.low + 1) (is_last w x c) [] (Met c (number w.space x) ∷ []) (Spent (number w.space x) ∷ []) (λ e. refl) (λ ne e. refl) (λ ne f l. refl) refl

  -- a load of a first word that adds such acts, by the word that it finds
  loads_first : (acts : WideWorldType → ℕ → List Act)
      → ((s : TableState Unit WideView) (r : IsRunning key s.words s.views) (at : get_elem? s.views id ≡ some me.0)
      → (state_from (state_of r.history) (by me.0.number (acts me.0.world (first_word s.words c))) ≡ state_of r.history) × WideLegalFrom key (state_of r.history) (by me.0.number (acts key (first_word s.words c))))
      → Allows running slots id me (first_index c) (λ n. n) (λ n new. (new.1 ≡ me.1) × Advances me.0 new.0 (acts me.0.world n) (saw c n me.0.dues) × IsAsSeen me.0 c n)
  loads_first acts may s r homes at fit =
      let word = first_word s.words c in
      let dues = saw c word me.0.dues in
      let words' = set s.words (first_index c) word in
      let m = first_moves s r at (acts me.0.world word) (may s r at).0 (at_key s r at (λ w. WideLegalFrom key (state_of r.history) (by me.0.number (acts w word))) (may s r at).1) in (
        advanced me.0 r.history (acts me.0.world word) dues,
        keeps,
        tt,
        advance r id me.0 at live (acts me.0.world word) dues words' m,
        (refl, tells r id me.0 at live (acts me.0.world word) dues words' m, as_seen_here r id me.0 at live c x below is_wide q),
      )

  -- the same of a second word
  loads_second : (acts : WideWorldType → ℕ → List Act)
      → ((s : TableState Unit WideView) (r : IsRunning key s.words s.views) (at : get_elem? s.views id ≡ some me.0)
      → (state_from (state_of r.history) (by me.0.number (acts me.0.world (slice_index s.words (second_index c)))) ≡ state_of r.history) × WideLegalFrom key (state_of r.history) (by me.0.number (acts key (slice_index s.words (second_index c)))))
      → Allows running slots id me (second_index c) (λ n. n) (λ n new. (new.1 ≡ me.1) × Advances me.0 new.0 (acts me.0.world n) me.0.dues × (n ≡ second_seen new.0 c))
  loads_second acts may s r homes at fit =
      let word = slice_index s.words (second_index c) in
      let words' = set s.words (second_index c) word in
      let same = (may s r at).0 in
      let m = second_moves s r at (acts me.0.world word) same (at_key s r at (λ w. WideLegalFrom key (state_of r.history) (by me.0.number (acts w word))) (may s r at).1) in (
        advanced me.0 r.history (acts me.0.world word) me.0.dues,
        keeps,
        tt,
        advance r id me.0 at live (acts me.0.world word) me.0.dues words' m,
        (refl, tells r id me.0 at live (acts me.0.world word) me.0.dues words' m, second_then s r at (acts me.0.world word) me.0.dues same),
      )

  pub seeks_first : Allows running slots id me (first_index c) (λ n. n) (first_sought c x none_said me)
  seeks_first = loads_first (λ w n. seek_first_acts w c x n) (λ s r at. (sought_first_still s r at me.0.world me.0.number (first_word s.words c), first_sought_legal s r at))

  -- loads of a second word, at a cell with the pair's own half
  module _ (half : HasSeen me.0.dues.seen c (x.high + 1)) where
    sought_second_legal : (s : TableState Unit WideView) (r : IsRunning key s.words s.views) (at : get_elem? s.views id ≡ some me.0)
        → WideLegalFrom key (state_of r.history) (by me.0.number (seek_second_acts key c x (slice_index s.words (second_index c))))
    sought_second_legal s r at =
        probed_is (λ acts. WideLegalFrom key (state_of r.history) (by me.0.number acts)) (slice_index s.words (second_index c)) (x.low + 1) (is_last key x c)
        (Missed (number key.space x) ∷ []) (Met c (number key.space x) ∷ []) (Missed (number key.space x) ∷ [])
        (λ e. missed s r at (new_here r id me.0 at live c x below is_wide q (free_second r id me.0 at live c x below is_wide q half e)))
        (λ ne e. (met_second r id me.0 at live c x below is_wide q half e, tt))
        (λ ne other last. missed s r at (new_last r id me.0 at live c x below is_wide q (other_second r id me.0 at live c x below is_wide q half ne other) last))
        tt

    pub seeks_second : Allows running slots id me (second_index c) (λ n. n) (second_sought c x none_said me)
    seeks_second = loads_second (λ w n. seek_second_acts w c x n) (λ s r at. (sought_second_still s r at me.0.world me.0.number (slice_index s.words (second_index c)), sought_second_legal s r at))

  -- loads in search of a place
  module _ (o : Origin) (cause : IsOrigin (flat me.0.world) (state_of me.0.front) (number me.0.world.space x) o) where
    module _ (s : TableState Unit WideView) (r : IsRunning key s.words s.views) (at : get_elem? s.views id ≡ some me.0) where
      pub cause_here : IsOrigin (flat key) (state_of r.history) (number key.space x) o
      cause_here =
          origin_stays (flat key) (state_of me.0.front) (state_of r.history) (number key.space x) o (front_stays r id me.0 at live)
          (subst (λ (w : WideWorldType). IsOrigin (flat w) (state_of me.0.front) (number w.space x) o) (world_is r id me.0 at live c x below is_wide q) cause)

      spent : Passes key s.words (state_of r.history) r.laid x (wide_here r id me.0 at live c x below is_wide q) c → is_last key x c ≡ true
          → WideLegalFrom key (state_of r.history) (by me.0.number (Spent (number key.space x) ∷ []))
      spent here last = (
        record {
          fresh = new_last r id me.0 at live c x below is_wide q here last;
          full = full_last r id me.0 at live c x below is_wide q here last;
          origin = o;
          cause = cause_here;
        },
        tt,
      )

      first_sought_empty_legal : WideLegalFrom key (state_of r.history) (by me.0.number (seek_room_first_acts key c x (first_word s.words c)))
      first_sought_empty_legal =
          probed_is (λ acts. WideLegalFrom key (state_of r.history) (by me.0.number acts)) (first_word s.words c) (x.high + 1) (is_last key x c) [] [] (Spent (number key.space x) ∷ [])
          (λ e. tt) (λ ne e. tt) (λ ne other last. spent (other_first s r at ne other) last) tt

    pub seeks_empty_first : Allows running slots id me (first_index c) (λ n. n) (first_sought_empty c x none_said me)
    seeks_empty_first = loads_first (λ w n. seek_room_first_acts w c x n) (λ s r at. (sought_empty_first_still s r at me.0.world me.0.number (first_word s.words c), first_sought_empty_legal s r at))

    module _ (half : HasSeen me.0.dues.seen c (x.high + 1)) where
      second_sought_empty_legal : (s : TableState Unit WideView) (r : IsRunning key s.words s.views) (at : get_elem? s.views id ≡ some me.0)
          → WideLegalFrom key (state_of r.history) (by me.0.number (seek_room_second_acts key c x (slice_index s.words (second_index c))))
      second_sought_empty_legal s r at =
          probed_is (λ acts. WideLegalFrom key (state_of r.history) (by me.0.number acts)) (slice_index s.words (second_index c)) (x.low + 1) (is_last key x c)
          [] (Met c (number key.space x) ∷ []) (Spent (number key.space x) ∷ [])
          (λ e. tt)
          (λ ne e. (met_second r id me.0 at live c x below is_wide q half e, tt))
          (λ ne other last. spent s r at (other_second r id me.0 at live c x below is_wide q half ne other) last)
          tt

      pub seeks_empty_second : Allows running slots id me (second_index c) (λ n. n) (second_sought_empty c x none_said me)
      seeks_empty_second = loads_second (λ w n. seek_room_second_acts w c x n) (λ s r at. (sought_empty_second_still s r at me.0.world me.0.number (slice_index s.words (second_index c)), second_sought_empty_legal s r at))

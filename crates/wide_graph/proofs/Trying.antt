-- What each step at a cell tells a call.
use Rattle.std.proofs.Common.{◌≡◌, ◌≢◌, refl, sym, ap, subst, ◌∙◌, ℕ, ◌+◌, inl, inr, Bool, true, false, List, [], ◌∷◌, Option, Some, None}
use Rattle.std.proofs.lemmas.List.{append-nil}
use Rattle.graph_history.specs.declared.event.Origin.{Origin}
use Rattle.graph_history.specs.declared.event.Act.{Act}
use Rattle.graph_history.specs.declared.event.Act.TheVariants.{Added as AddedAct, Met, Spent}
use Rattle.graph_history.specs.History.{state_of, vertex_at}
use Rattle.graph_history.specs.Laws.{Stays}
use Rattle.graph_rule.specs.Told.{probed}
use Rattle.wide_words.specs.declared.spaces.WideCode.{WideCode}
use Rattle.wide_words.specs.WideSpaces.{IsWide, number}
use Rattle.wide_words.specs.WideHistory.{WideWorldType}
use Rattle.wide_rule.specs.declared.dues.WideDues.{WideDues}
use Rattle.wide_rule.specs.Layout.{low_of, low_word, is_last, HasSeen}
use Rattle.wide_rule.specs.Rule.{WideView}
use Rattle.wide_rule.specs.Told.{Advances, claim_second_acts, seek_room_first_acts, seek_room_second_acts, with_seen, saw, claimed, tried, unless, finished, second_seen, IsAsSeen}
use Rattle.wide_rule.proofs.Pairs.{low_number, low_some}
use Rattle.wide_graph.specs.Entries.{Ends}
use Rattle.wide_graph.specs.Search.{Looked, Passing}
use Rattle.wide_graph.proofs.Acts.{probed_empty, probed_same, probed_last, probed_on, second_won, second_met, second_lost, saw_owed, saw_pending, saw_keeps, saw_has, tried_owed, tried_keeps, tried_won, tried_lost, claimed_has, seen_has, unless_same, finished_pending, finished_keeps, finished_owes, finished_owed}
use Rattle.wide_graph.proofs.Looking.{own_after, world_after, advanced_stays, looked_step, ends_step, ends_at}

-- a second word that is not that of the pair
other_pair : (w : WideWorldType) (x : WideCode) (o : Option ℕ) (n : ℕ) → IsWide w.space x → n ≡ low_word w o → n ≢ 0 → n ≢ x.low + 1 → (y : ℕ) × (o ≡ Some y) × (y ≢ number w.space x)
other_pair w x None n wide is z e = absurd (z is)
other_pair w x (Some y) n wide is z e =
    (y, refl, λ same. e (is ∙ ap (λ (m : ℕ). low_of w m + 1) same ∙ ap (λ (m : ℕ). m + 1) (low_number w x wide)))

-- a second word that is not 0 stays
second_stays : (v w : WideView) (c n m : ℕ) → w.world ≡ v.world → Stays (state_of v.front) (state_of w.front) → n ≢ 0 → n ≡ second_seen v c → m ≡ second_seen w c → m ≡ n
second_stays v w c n m world stays z before after =
    let r = low_some v.world (vertex_at (state_of v.front).vertices c) (λ e. z (before ∙ e)) in
    let later : vertex_at (state_of w.front).vertices c ≡ Some r.0 = stays.vertices c r.0 r.1 in
    after ∙ ap (low_word w.world) later ∙ ap (λ (k : WideWorldType). low_word k (Some r.0)) world ∙ ap (low_word v.world) (sym r.1) ∙ sym before

module _ (v w : WideView) (c n : ℕ) (x : WideCode) (last : Bool) (at : last ≡ is_last v.world x c) where
  -- a load of the first word
  module _ (empty other : List Act) (a : Advances v w (probed n (x.high + 1) (is_last v.world x c) empty [] other) (saw c n v.dues)) where
    first_looked : probed n (x.high + 1) (is_last v.world x c) empty [] other ≡ [] → Looked v w
    first_looked none = looked_step v w _ (saw c n v.dues) a none (saw_owed c n v.dues) (saw_keeps c n v.dues)

    first_seen : n ≢ 0 → HasSeen w.dues.seen c n
    first_seen z = subst (λ (o : WideDues). HasSeen o.seen c n) (sym (own_after v w _ (saw c n v.dues) a)) (saw_has c n v.dues z)

    first_ends : (act : Act) → probed n (x.high + 1) (is_last v.world x c) empty [] other ≡ act ∷ [] → v.dues.pending ≡ None → Ends v w act []
    first_ends act one idle = ends_step v w _ (saw c n v.dues) a act [] one (saw_owed c n v.dues ∙ sym (append-nil v.dues.owed)) (saw_pending c n v.dues ∙ idle) (saw_keeps c n v.dues)

    pub first_idle : v.dues.pending ≡ None → w.dues.pending ≡ None
    first_idle idle = ap (λ (o : WideDues). o.pending) (own_after v w _ (saw c n v.dues) a) ∙ saw_pending c n v.dues ∙ idle

    pub first_empty : empty ≡ [] → n ≡ 0 → Looked v w
    first_empty none e = first_looked (probed_empty n (x.high + 1) (is_last v.world x c) empty [] other e ∙ none)

    pub first_half : n ≢ 0 → n ≡ x.high + 1 → Looked v w
    first_half z e = first_looked (probed_same n (x.high + 1) (is_last v.world x c) empty [] other z e)

    pub half_seen : n ≢ 0 → n ≡ x.high + 1 → HasSeen w.dues.seen c (x.high + 1)
    half_seen z e = subst (λ (m : ℕ). HasSeen w.dues.seen c m) e (first_seen z)

    pub first_passed : n ≢ 0 → n ≢ x.high + 1 → last ≡ false → v.dues.pending ≡ None → (last ≡ false) × Passing v w x c
    first_passed z e more idle = (
      more,
      record {
        looked = first_looked (probed_on n (x.high + 1) (is_last v.world x c) empty [] other z e (sym at ∙ more));
        idle = first_idle idle;
        passed = inl (n, first_seen z, e);
      },
    )

    pub first_none : (act : Act) → empty ≡ act ∷ [] → n ≡ 0 → v.dues.pending ≡ None → Ends v w act []
    first_none act one e idle = first_ends act (probed_empty n (x.high + 1) (is_last v.world x c) empty [] other e ∙ one) idle

    pub first_last : (act : Act) → other ≡ act ∷ [] → n ≢ 0 → n ≢ x.high + 1 → last ≡ true → v.dues.pending ≡ None → Ends v w act []
    first_last act one z e end idle = first_ends act (probed_last n (x.high + 1) (is_last v.world x c) empty [] other z e (sym at ∙ end) ∙ one) idle

  -- a load of the second word
  module _ (empty same other : List Act) (a : Advances v w (probed n (x.low + 1) (is_last v.world x c) empty same other) v.dues) where
    second_looked : probed n (x.low + 1) (is_last v.world x c) empty same other ≡ [] → Looked v w
    second_looked none = looked_step v w _ v.dues a none refl (λ d m has. has)

    second_ends : (act : Act) → probed n (x.low + 1) (is_last v.world x c) empty same other ≡ act ∷ [] → v.dues.pending ≡ None → Ends v w act []
    second_ends act one idle = ends_step v w _ v.dues a act [] one (sym (append-nil v.dues.owed)) idle (λ d m has. has)

    pub second_idle : v.dues.pending ≡ None → w.dues.pending ≡ None
    second_idle idle = ap (λ (o : WideDues). o.pending) (own_after v w _ v.dues a) ∙ idle

    pub second_has : HasSeen v.dues.seen c (x.high + 1) → HasSeen w.dues.seen c (x.high + 1)
    second_has has = subst (λ (o : WideDues). HasSeen o.seen c (x.high + 1)) (sym (own_after v w _ v.dues a)) has

    pub second_empty : empty ≡ [] → n ≡ 0 → Looked v w
    second_empty none e = second_looked (probed_empty n (x.low + 1) (is_last v.world x c) empty same other e ∙ none)

    pub second_none : (act : Act) → empty ≡ act ∷ [] → n ≡ 0 → v.dues.pending ≡ None → Ends v w act []
    second_none act one e idle = second_ends act (probed_empty n (x.low + 1) (is_last v.world x c) empty same other e ∙ one) idle

    pub second_found : (act : Act) → same ≡ act ∷ [] → n ≢ 0 → n ≡ x.low + 1 → v.dues.pending ≡ None → Ends v w act []
    second_found act one z e idle = second_ends act (probed_same n (x.low + 1) (is_last v.world x c) empty same other z e ∙ one) idle

    pub second_last : (act : Act) → other ≡ act ∷ [] → n ≢ 0 → n ≢ x.low + 1 → last ≡ true → v.dues.pending ≡ None → Ends v w act []
    second_last act one z e end idle = second_ends act (probed_last n (x.low + 1) (is_last v.world x c) empty same other z e (sym at ∙ end) ∙ one) idle

    pub second_passed : IsWide v.world.space x → n ≡ second_seen w c → n ≢ 0 → n ≢ x.low + 1 → last ≡ false → v.dues.pending ≡ None → (last ≡ false) × Passing v w x c
    second_passed wide word z e more idle =
        let here = subst (λ (k : WideWorldType). IsWide k.space x) (sym (world_after v w _ v.dues a)) wide in (
          more,
          record {
            looked = second_looked (probed_on n (x.low + 1) (is_last v.world x c) empty same other z e (sym at ∙ more));
            idle = second_idle idle;
            passed = inr (other_pair w.world x (vertex_at (state_of w.front).vertices c) n here word z e);
          },
        )

-- an exchange of the first word
module _ (v w : WideView) (c n : ℕ) (x : WideCode) (a : Advances v w [] (tried c x n v.dues)) where
  pub tried_looked : Looked v w
  tried_looked = looked_step v w [] (tried c x n v.dues) a refl (tried_owed c x n v.dues) (tried_keeps c x n v.dues)

  own_won : n ≡ 0 → w.dues ≡ claimed c x v.dues
  own_won e = own_after v w [] (tried c x n v.dues) a ∙ tried_won c x n v.dues e

  own_lost : n ≢ 0 → w.dues ≡ with_seen c n v.dues
  own_lost z = own_after v w [] (tried c x n v.dues) a ∙ tried_lost c x n v.dues z

  pub won_has : n ≡ 0 → HasSeen w.dues.seen c (x.high + 1)
  won_has e = subst (λ (o : WideDues). HasSeen o.seen c (x.high + 1)) (sym (own_won e)) (claimed_has c x n v.dues)

  pub won_open : n ≡ 0 → unless c w.dues.pending ≡ None
  won_open e = ap (λ (o : WideDues). unless c o.pending) (own_won e) ∙ unless_same c

  pub lost_has : n ≢ 0 → HasSeen w.dues.seen c n
  lost_has z = subst (λ (o : WideDues). HasSeen o.seen c n) (sym (own_lost z)) (seen_has c x n v.dues)

  pub lost_half : n ≢ 0 → n ≡ x.high + 1 → HasSeen w.dues.seen c (x.high + 1)
  lost_half z e = subst (λ (m : ℕ). HasSeen w.dues.seen c m) e (lost_has z)

  pub lost_idle : n ≢ 0 → v.dues.pending ≡ None → w.dues.pending ≡ None
  lost_idle z idle = ap (λ (o : WideDues). o.pending) (own_lost z) ∙ idle

  pub lost_passed : (last : Bool) → n ≢ 0 → n ≢ x.high + 1 → last ≡ false → v.dues.pending ≡ None → (last ≡ false) × Passing v w x c
  lost_passed last z e more idle = (more, record { looked = tried_looked; idle = lost_idle z idle; passed = inl (n, lost_has z, e) })

  -- a further load finds the same word
  pub lost_last : (u : WideView) (m : ℕ) (last : Bool) → last ≡ is_last v.world x c → Advances w u (seek_room_first_acts w.world c x m) (saw c m w.dues) → IsAsSeen w c m
      → n ≢ 0 → n ≢ x.high + 1 → last ≡ true → v.dues.pending ≡ None → Ends v u (Spent (number v.world.space x)) []
  lost_last u m last at b again z e end idle =
      let same : m ≡ n = again.as_seen n (lost_has z) in
      let here = at ∙ ap (λ (k : WideWorldType). is_last k x c) (sym (world_after v w [] (tried c x n v.dues) a)) in
      let act = Spent (number w.world.space x) in
      let ended = first_last w u c m x last here [] (act ∷ []) b act refl (λ h. z (sym same ∙ h)) (λ h. e (sym same ∙ h)) end (lost_idle z idle) in
      ends_at v w tried_looked u x (λ (y : ℕ). Spent y) [] ended

-- an exchange of the second word
module _ (v w : WideView) (c n : ℕ) (x : WideCode) (o : Origin) (a : Advances v w (claim_second_acts v.world c x o n) (finished c n v.dues)) where
  pub finished_new : n ≡ 0 → unless c v.dues.pending ≡ None → Ends v w (AddedAct c (number v.world.space x) o) (c ∷ [])
  finished_new e idle =
      ends_step v w _ (finished c n v.dues) a (AddedAct c (number v.world.space x) o) (c ∷ []) (second_won v.world c x o n e) (finished_owes c n v.dues e) (finished_pending c n v.dues ∙ idle) (finished_keeps c n v.dues)

  pub finished_met : n ≢ 0 → n ≡ x.low + 1 → unless c v.dues.pending ≡ None → Ends v w (Met c (number v.world.space x)) []
  finished_met z e idle =
      ends_step v w _ (finished c n v.dues) a (Met c (number v.world.space x)) [] (second_met v.world c x o n z e) (finished_owed c n v.dues z ∙ sym (append-nil v.dues.owed)) (finished_pending c n v.dues ∙ idle) (finished_keeps c n v.dues)

  pub beaten_looked : n ≢ 0 → n ≢ x.low + 1 → Looked v w
  beaten_looked z e = looked_step v w _ (finished c n v.dues) a (second_lost v.world c x o n z e) (finished_owed c n v.dues z) (finished_keeps c n v.dues)

  pub beaten_idle : unless c v.dues.pending ≡ None → w.dues.pending ≡ None
  beaten_idle idle = ap (λ (p : WideDues). p.pending) (own_after v w _ (finished c n v.dues) a) ∙ finished_pending c n v.dues ∙ idle

  pub beaten_passed : (last : Bool) → IsWide v.world.space x → (n ≢ 0 → n ≡ second_seen w c) → n ≢ 0 → n ≢ x.low + 1 → last ≡ false → unless c v.dues.pending ≡ None → (last ≡ false) × Passing v w x c
  beaten_passed last wide word z e more idle =
      let here = subst (λ (k : WideWorldType). IsWide k.space x) (sym (world_after v w _ (finished c n v.dues) a)) wide in (
        more,
        record {
          looked = beaten_looked z e;
          idle = beaten_idle idle;
          passed = inr (other_pair w.world x (vertex_at (state_of w.front).vertices c) n here (word z) z e);
        },
      )

  -- a further load finds the same word
  pub beaten_last : (u : WideView) (m : ℕ) (last : Bool) → last ≡ is_last v.world x c → Advances w u (seek_room_second_acts w.world c x m) w.dues → (n ≢ 0 → n ≡ second_seen w c) → m ≡ second_seen u c
      → n ≢ 0 → n ≢ x.low + 1 → last ≡ true → unless c v.dues.pending ≡ None → Ends v u (Spent (number v.world.space x)) []
  beaten_last u m last at b word again z e end idle =
      let acts = seek_room_second_acts w.world c x m in
      let same : m ≡ n = second_stays w u c n m (world_after w u acts w.dues b) (advanced_stays w u acts w.dues b) z (word z) again in
      let here = at ∙ ap (λ (k : WideWorldType). is_last k x c) (sym (world_after v w _ (finished c n v.dues) a)) in
      let act = Spent (number w.world.space x) in
      let ended = second_last w u c m x last here [] (Met c (number w.world.space x) ∷ []) (act ∷ []) b act refl (λ h. z (sym same ∙ h)) (λ h. e (sym same ∙ h)) end (beaten_idle idle) in
      ends_at v w (beaten_looked z e) u x (λ (y : ℕ). Spent y) [] ended

-- Steps one after another.
use Rattle.std.proofs.Common.{◌≡◌, refl, sym, ap, subst, ◌∙◌, ℕ, ◌<◌, List, [], ◌∷◌, ◌++◌, append_assoc}
use Rattle.std.proofs.lemmas.List.{append-nil}
use Rattle.std.proofs.lemmas.List.Elements.{All-contains}
use Rattle.tensor_words.specs.Spaces.{size}
use Rattle.tensor_words.specs.Worlds.{WorldType, IsWorld}
use Rattle.tensor_words.proofs.Keeps.{op_below}
use Rattle.graph_history.specs.declared.event.Origin.{Origin}
use Rattle.graph_history.specs.declared.event.Origin.TheVariants.{Root, By}
use Rattle.graph_history.specs.declared.event.Act.{Act}
use Rattle.graph_history.specs.declared.event.Event.{Event}
use Rattle.graph_history.specs.declared.view.Dues.{Dues}
use Rattle.graph_history.specs.Views.{View}
use Rattle.graph_history.specs.History.{State, state_of, after, IsOrigin, IsLegal, IsLegalAct, calls}
use Rattle.graph_history.specs.Laws.{Stays}
use Rattle.graph_history.specs.Desks.{by, Grows, EndsWith}
use Rattle.graph_history.proofs.Histories.{legal_rest, state_push}
use Rattle.graph_history.proofs.SoundStates.{sound}
use Rattle.graph_rule.specs.Told.{advanced, Advances, Watched, Went}
use Rattle.graph_history.proofs.Growing.{calls-append, calls_both, calls_by, by_append}
use Rattle.graph_rule.proofs.Views.{stays_prefix}

-- no step yet
pub watched_none : (v : View) → Watched v v
watched_none v = record { more = []; is = λ i. record v { front = sym (append-nil v.front) i }; quiet = refl; alone = λ all. refl }

module _ (u v w : View) (s : Watched u v) where
  moved_front : (l : List Event) → (v.front ++ l) ≡ u.front ++ (s.more ++ l)
  moved_front l = ap (λ (x : View). x.front ++ l) s.is ∙ append_assoc u.front s.more l

  number_same : v.number ≡ u.number
  number_same = ap (λ (x : View). x.number) s.is

  stake_same : v.stake ≡ u.stake
  stake_same = ap (λ (x : View). x.stake) s.is

  -- a further step
  pub then_step : (acts : List Act) (d : Dues) → Advances v w acts d → Advances u w acts d
  then_step acts d a = record {
    between = s.more ++ a.between;
    is = a.is ∙ ap (λ (x : View). advanced x (x.front ++ a.between) acts d) s.is ∙ ap (λ (h : List Event). advanced u h acts d) (append_assoc u.front s.more a.between);
    quiet = calls_both s.more a.between u.number s.quiet (subst (λ (n : ℕ). calls a.between n ≡ []) number_same a.quiet);
    alone = λ all. let before = s.alone all in let here = a.alone (stake_same ∙ all) in ap (λ (l : List Event). l ++ a.between) before ∙ here;
    known = a.known;
    complete = a.complete;
  }

  pub then_watch : Advances v w [] v.dues → Watched u w
  then_watch a = record {
    more = s.more ++ a.between;
    is = a.is ∙ (λ i. record v { calls = append-nil v.calls i; front = append-nil (v.front ++ a.between) i }) ∙ ap (λ (x : View). record x { front = x.front ++ a.between }) s.is
        ∙ ap (λ (h : List Event). record u { front = h }) (append_assoc u.front s.more a.between);
    quiet = calls_both s.more a.between u.number s.quiet (subst (λ (n : ℕ). calls a.between n ≡ []) number_same a.quiet);
    alone = λ all. let before = s.alone all in let here = a.alone (stake_same ∙ all) in ap (λ (l : List Event). l ++ a.between) before ∙ here;
  }

  -- several steps with events
  pub then_went : (acts : List Act) (d : Dues) → Went v w acts d → Went u w acts d
  then_went acts d g = record {
    more = s.more ++ g.more;
    is = g.is ∙ ap (λ (x : View). record x { calls = x.calls ++ by x.number acts; front = x.front ++ g.more; dues = d }) s.is
        ∙ ap (λ (h : List Event). record u { calls = u.calls ++ by u.number acts; front = h; dues = d }) (append_assoc u.front s.more g.more);
    own = calls-append s.more g.more u.number ∙ ap (λ (l : List Event). l ++ calls g.more u.number) s.quiet ∙ subst (λ (n : ℕ). calls g.more n ≡ by n acts) number_same g.own;
    alone = λ all. ap (λ (l : List Event). l ++ g.more) (s.alone all) ∙ g.alone (stake_same ∙ all) ∙ ap (λ (n : ℕ). by n acts) number_same;
    known = g.known;
    complete = g.complete;
  }

-- what was seen stays
pub watched_stays : (v w : View) → Watched v w → Stays (state_of v.front) (state_of w.front)
watched_stays v w s = stays_prefix v.front w.front (s.more, ap (λ (x : View). x.front) s.is)

pub advanced_stays : (v w : View) (acts : List Act) (d : Dues) → Advances v w acts d → Stays (state_of v.front) (state_of w.front)
advanced_stays v w acts d a = stays_prefix v.front w.front (a.between ++ by v.number acts, ap (λ (x : View). x.front) a.is ∙ append_assoc v.front a.between (by v.number acts))

-- several steps with events
pub went_one : (v w : View) (acts : List Act) (d : Dues) → Advances v w acts d → Went v w acts d
went_one v w acts d a = record {
  more = a.between ++ by v.number acts;
  is = a.is ∙ ap (λ (h : List Event). record v { calls = v.calls ++ by v.number acts; front = h; dues = d }) (append_assoc v.front a.between (by v.number acts));
  own = calls-append a.between (by v.number acts) v.number ∙ ap (λ (l : List Event). l ++ calls (by v.number acts) v.number) a.quiet ∙ calls_by v.number acts;
  alone = λ all. ap (λ (l : List Event). l ++ by v.number acts) (a.alone all);
  known = a.known;
  complete = a.complete;
}

pub went_then : (u v w : View) (xs ys : List Act) (d e : Dues) → Went u v xs d → Went v w ys e → Went u w (xs ++ ys) e
went_then u v w xs ys d e p q = record {
  more = p.more ++ q.more;
  is = q.is ∙ ap (λ (x : View). record x { calls = x.calls ++ by x.number ys; front = x.front ++ q.more; dues = e }) p.is ∙ (λ i. record u { calls = calls_are i; front = append_assoc u.front p.more q.more i; dues = e });
  own = calls-append p.more q.more u.number ∙ ap (λ (l : List Event). l ++ calls q.more u.number) p.own ∙ ap (λ (l : List Event). by u.number xs ++ l) own_after ∙ by_append u.number xs ys;
  alone = λ all.
      ap (λ (l : List Event). l ++ q.more) (p.alone all) ∙ ap (λ (l : List Event). by u.number xs ++ l) (q.alone (stake_is ∙ all) ∙ ap (λ (n : ℕ). by n ys) number_is) ∙ by_append u.number xs ys;
  known = q.known;
  complete = q.complete;
}
  where
    number_is : v.number ≡ u.number
    number_is = ap (λ (x : View). x.number) p.is

    stake_is : v.stake ≡ u.stake
    stake_is = ap (λ (x : View). x.stake) p.is

    own_after : calls q.more u.number ≡ by u.number ys
    own_after = subst (λ (n : ℕ). calls q.more n ≡ by n ys) number_is q.own

    calls_are : (u.calls ++ by u.number xs) ++ by u.number ys ≡ u.calls ++ by u.number (xs ++ ys)
    calls_are = append_assoc u.calls (by u.number xs) (by u.number ys) ∙ ap (λ (l : List Event). u.calls ++ l) (by_append u.number xs ys)

pub went_watched : (u v w : View) (acts : List Act) (d : Dues) → Watched u v → Advances v w acts d → Went u w acts d
went_watched u v w acts d s a = went_one u w acts d (then_step u v w s acts d a)

-- what several steps tell of the fronts
pub went_grows : (v w : View) (acts : List Act) (d : Dues) → Went v w acts d → Grows v.world v.number v.front w.front acts
went_grows v w acts d g = record {
  more = g.more;
  is = ap (λ (x : View). x.front) g.is;
  own = g.own;
  legal = subst (λ (u : WorldType). IsLegal u w.front) (ap (λ (x : View). x.world) g.is) g.known.legal;
}

-- the last event is the seat's own
pub step_ends : (v w : View) (act : Act) (d : Dues) → Advances v w (act ∷ []) d → EndsWith v.number w.front
step_ends v w act d a = (v.front ++ a.between, act, ap (λ (x : View). x.front) a.is)

-- the one act of a step was legal where it was done
pub step_state : (v w : View) (act : Act) (d : Dues) → Advances v w (act ∷ []) d → (s : State) × IsLegalAct w.world s act × (state_of w.front ≡ after s act)
unfolding IsLegal
step_state v w act d a =
    let is = ap (λ (x : View). x.front) a.is in
    let h = v.front ++ a.between in
    let e : Event = record { caller = v.number; act = act } in
    let legal : IsLegal w.world (h ++ e ∷ []) = subst (λ (l : List Event). IsLegal w.world l) is a.known.legal in
    (state_of h, (legal_rest w.world Rattle.graph_history.specs.History.empty_state h (e ∷ []) legal).0, ap state_of is ∙ state_push h e)

-- where a word comes from, it is a word
pub origin_word : (w : WorldType) (h : List Event) (x : ℕ) (o : Origin) → IsWorld w → IsLegal w h → IsOrigin w (state_of h) x o → x < size w.space
origin_word w h x Root is legal cause = All-contains (λ c. c < size w.space) w.roots x is.words cause
origin_word w h x (By c a) is legal cause = op_below w.space a cause.0 x is.space cause.2 ((sound w h legal).words c cause.0 cause.1) cause.3

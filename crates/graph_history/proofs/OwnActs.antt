-- What a caller's own acts say at the end of a front that grew.
use Rattle.std.proofs.Common.{◌≡◌, refl, sym, ap, subst, ◌∙◌, ℕ, ◌==◌, cond, Bool, true, false, List, [], ◌∷◌, ◌++◌, length, Option, Some, None, append_assoc}
use Rattle.tensor_words.specs.Worlds.{WorldType}
use Rattle.crystal_cartan.specs.declared.types.Arrow.{Arrow}
use Rattle.graph_history.specs.declared.event.Origin.{Origin}
use Rattle.graph_history.specs.declared.event.Act.{Act}
use Rattle.graph_history.specs.declared.event.Act.TheVariants.{Added, Met, Spent, Drew, Saw}
use Rattle.graph_history.specs.declared.event.Event.{Event}
use Rattle.graph_history.specs.declared.answer.Draw.{Draw}
use Rattle.graph_history.specs.declared.answer.Draw.TheVariants.{Zero as DrawsZero, To as DrawsTo, Full as DrawsFull}
use Rattle.graph_history.specs.History.{Vertex, State, empty_state, after, state_of, vertex_at, HasVertex, HasSome, HasArrow, IsNew, IsTarget, IsLegalAct, IsLegal, calls}
use Rattle.graph_history.specs.Desks.{by, Grows, Draws, saw_zero, saw, drew_zero, entered_drew, entered_saw, full}
use Rattle.graph_history.proofs.Histories.{state_from-append, stays_append, stays_from, legal_rest, vertex_at-new, target_at-new, own_edge, one_code}
use Rattle.graph_history.proofs.SoundStates.{sound}
use Rattle.graph_history.proofs.Fitting.{full_stays}

-- where an arrow leads by the answer to a draw, if it is drawn then
abbrev pub leads_to : Draw → Option (Option ℕ)
leads_to DrawsZero = Some None
leads_to (DrawsTo t) = Some (Some t)
leads_to DrawsFull = None

-- an own event among others, and the own events before and after it
pub record Around (n : ℕ) (events : List Event) (xs : List Act) (a : Act) (ys : List Act) : Type 0 where
  pub front : List Event
  pub rest : List Event
  pub is : events ≡ front ++ record { caller = n; act = a } ∷ rest
  pub before : calls front n ≡ by n xs
  pub behind : calls rest n ≡ by n ys

pub own_at : (n : ℕ) (events : List Event) (xs : List Act) (a : Act) (ys : List Act) → calls events n ≡ by n (xs ++ a ∷ ys) → Around n events xs a ys
own_at n [] [] a ys own = cc
own_at n [] (x ∷ xs) a ys own = cc
own_at n (e ∷ es) xs a ys own = by_caller (e.caller == n) refl own (λ zs own_rest. own_at n es zs a ys own_rest)
  where
    mine : (zs : List Act) → (e.caller == n) ≡ true → e ∷ calls es n ≡ by n (zs ++ a ∷ ys) → ((us : List Act) → calls es n ≡ by n (us ++ a ∷ ys) → Around n es us a ys) → Around n (e ∷ es) zs a ys
    mine [] is all later =
        let same : e ≡ record { caller = n; act = a } = cc in
        record { front = []; rest = es; is = λ i. same i ∷ es; before = refl; behind = cc }
    mine (z ∷ zs) is all later =
        let same : e ≡ record { caller = n; act = z } = cc in
        let r = later zs cc in
        record {
          front = e ∷ r.front;
          rest = r.rest;
          is = λ i. e ∷ r.is i;
          before = rw is (λ i. same i ∷ r.before i);
          behind = r.behind;
        }

    by_caller : (b : Bool) → (e.caller == n) ≡ b → cond b (e ∷ calls es n) (calls es n) ≡ by n (xs ++ a ∷ ys)
        → ((us : List Act) → calls es n ≡ by n (us ++ a ∷ ys) → Around n es us a ys) → Around n (e ∷ es) xs a ys
    by_caller true is all later = mine xs is all later
    by_caller false is all later =
        let r = later xs all in
        record {
          front = e ∷ r.front;
          rest = r.rest;
          is = λ i. e ∷ r.is i;
          before = rw is r.before;
          behind = r.behind;
        }

-- an own act was legal where it was done, and what it changed stands in the front
pub record WasLegal (w : WorldType) (n : ℕ) (old new : List Event) (a : Act) : Type 0 where
  pub at : List Event
  pub rest : List Event
  pub is : new ≡ (old ++ at) ++ record { caller = n; act = a } ∷ rest
  pub legal : IsLegal w ((old ++ at) ++ record { caller = n; act = a } ∷ rest)
  pub may : IsLegalAct w (state_of (old ++ at)) a

module _ (w : WorldType) (n : ℕ) (old new : List Event) where
  pub own_legal : (xs : List Act) (a : Act) (ys : List Act) → Grows w n old new (xs ++ a ∷ ys) → WasLegal w n old new a
  unfolding IsLegal
  own_legal xs a ys g =
      let here = own_at n g.more xs a ys g.own in
      let e : Event = record { caller = n; act = a } in
      let split : new ≡ (old ++ here.front) ++ e ∷ here.rest = g.is ∙ ap (λ (l : List Event). old ++ l) here.is ∙ sym (append_assoc old here.front (e ∷ here.rest)) in
      let lawful : IsLegal w ((old ++ here.front) ++ e ∷ here.rest) = subst (IsLegal w) split g.legal in
      record { at = here.front; rest = here.rest; is = split; legal = lawful; may = (legal_rest w empty_state (old ++ here.front) (e ∷ here.rest) lawful).0 }

  -- where it was full, every cell is taken and the word is no vertex still, whatever others did since
  pub spent_full : (xs : List Act) (x : ℕ) (ys : List Act) → Grows w n old new (xs ++ Spent x ∷ ys) → IsNew (state_of new) x × (length (state_of new).vertices ≡ w.cells)
  spent_full xs x ys g =
      let r = own_legal xs (Spent x) ys g in
      let same : (state_of new).vertices ≡ (state_of (old ++ r.at)).vertices =
      ap (λ (l : List Event). (state_of l).vertices) r.is ∙ full_stays w (old ++ r.at) (record { caller = n; act = Spent x } ∷ r.rest) r.legal r.may.full in
      (λ c there. r.may.fresh c (subst (λ (vs : List Vertex). vertex_at vs c ≡ Some x) same there), ap length same ∙ r.may.full)

  -- a cell that was put in had no vertex before
  pub added_new : (xs : List Act) (c x : ℕ) (o : Origin) (ys : List Act) → Grows w n old new (xs ++ Added c x o ∷ ys) → HasSome (state_of old) c → ⊥
  added_new xs c x o ys g (y, there) =
      let r = own_legal xs (Added c x o) ys g in
      let later : vertex_at (state_of (old ++ r.at)).vertices c ≡ Some y = (stays_append old r.at).vertices c y there in
      let free = r.may.free in cc

  -- a vertex that was put in or met, and an arrow that was drawn or seen, are there
  there_after : (a : Act) (r : WasLegal w n old new a) (c x : ℕ) → HasVertex (after (state_of (old ++ r.at)) a) c x → HasVertex (state_of new) c x
  there_after a r c x there =
      subst (λ (l : List Event). HasVertex (state_of l) c x) (sym r.is)
      (subst (λ (s : State). HasVertex s c x) (sym (state_from-append empty_state (old ++ r.at) (record { caller = n; act = a } ∷ r.rest)))
      ((stays_from (after (state_of (old ++ r.at)) a) r.rest).vertices c x there))

  drawn_after : (a : Act) (r : WasLegal w n old new a) (c : ℕ) (d : Arrow) (t : Option ℕ) → HasArrow (after (state_of (old ++ r.at)) a) c d t → HasArrow (state_of new) c d t
  drawn_after a r c d t there =
      subst (λ (l : List Event). HasArrow (state_of l) c d t) (sym r.is)
      (subst (λ (s : State). HasArrow s c d t) (sym (state_from-append empty_state (old ++ r.at) (record { caller = n; act = a } ∷ r.rest)))
      ((stays_from (after (state_of (old ++ r.at)) a) r.rest).arrows c d t there))

  pub added_there : (xs : List Act) (c x : ℕ) (o : Origin) (ys : List Act) → Grows w n old new (xs ++ Added c x o ∷ ys) → HasVertex (state_of new) c x
  added_there xs c x o ys g =
      let r = own_legal xs (Added c x o) ys g in
      there_after (Added c x o) r c x (vertex_at-new (state_of (old ++ r.at)).vertices (record { cell = c; code = x }) r.may.free)

  pub met_there : (xs : List Act) (c x : ℕ) (ys : List Act) → Grows w n old new (xs ++ Met c x ∷ ys) → HasVertex (state_of new) c x
  met_there xs c x ys g = let r = own_legal xs (Met c x) ys g in there_after (Met c x) r c x r.may

  pub saw_drawn : (xs : List Act) (c : ℕ) (a : Arrow) (t : Option ℕ) (ys : List Act) → Grows w n old new (xs ++ Saw c a t ∷ ys) → HasArrow (state_of new) c a t
  saw_drawn xs c a t ys g = let r = own_legal xs (Saw c a t) ys g in drawn_after (Saw c a t) r c a t r.may

  pub drew_drawn : (xs : List Act) (c : ℕ) (a : Arrow) (t : Option ℕ) (ys : List Act) → Grows w n old new (xs ++ Drew c a t ∷ ys) → HasArrow (state_of new) c a t
  drew_drawn xs c a t ys g =
      let r = own_legal xs (Drew c a t) ys g in
      drawn_after (Drew c a t) r c a t (target_at-new (state_of (old ++ r.at)).drawn (record { cell = c; arrow = a; to = t }) c a (own_edge c c a a refl refl) r.may.undrawn)

  -- an arrow that was to be drawn leads where the answer says
  pub draws_leads : (c y : ℕ) (a : Arrow) (answer : Draw) (acts : List Act) → Draws w.space c a y answer acts → Grows w n old new acts
      → (t : Option ℕ) → leads_to answer ≡ Some t → HasArrow (state_of new) c a t
  draws_leads c y a answer acts saw_zero g t is = let same : None ≡ t = cc in subst (λ (u : Option ℕ). HasArrow (state_of new) c a u) same (saw_drawn [] c a None [] g)
  draws_leads c y a answer acts (saw d) g t is = let same : Some d ≡ t = cc in subst (λ (u : Option ℕ). HasArrow (state_of new) c a u) same (saw_drawn [] c a (Some d) [] g)
  draws_leads c y a answer acts (drew_zero e) g t is = let same : None ≡ t = cc in subst (λ (u : Option ℕ). HasArrow (state_of new) c a u) same (drew_drawn [] c a None [] g)
  draws_leads c y a answer acts (entered_drew d x r entry e at entered) g t is =
      let same : Some d ≡ t = cc in subst (λ (u : Option ℕ). HasArrow (state_of new) c a u) same (drew_drawn entry c a (Some d) [] g)
  draws_leads c y a answer acts (entered_saw d x r entry e at entered) g t is =
      let same : Some d ≡ t = cc in subst (λ (u : Option ℕ). HasArrow (state_of new) c a u) same (saw_drawn entry c a (Some d) [] g)
  draws_leads c y a answer acts (full x entry e entered) g t is = cc

  -- a drawn arrow leads to what the operator gives at the word that was there before
  pub led : (c x : ℕ) (a : Arrow) (t : Option ℕ) (acts : List Act) → Grows w n old new acts → HasVertex (state_of old) c x → HasArrow (state_of new) c a t → IsTarget w (state_of new) a x t
  led c x a t acts g there drawn =
      let target = (sound w new g.legal).simple.targets c a t drawn in
      let still : HasVertex (state_of new) c x = subst (λ (l : List Event). HasVertex (state_of l) c x) (sym g.is) ((stays_append old g.more).vertices c x there) in
      let same : target.0 ≡ x = one_code (state_of new) c target.0 x target.1 still in
      subst (λ (y : ℕ). IsTarget w (state_of new) a y t) same target.2

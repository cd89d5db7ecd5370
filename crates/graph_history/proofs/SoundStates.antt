-- What holds of every legal history.
use Rattle.std.proofs.Common.{◌≡◌, refl, sym, ap, subst, ◌∙◌, ℕ, ◌+◌, ◌-◌, ◌<◌, ◌⊎◌, inl, inr, List, [], ◌∷◌, ◌++◌, slice_get, Option, Some, None, Contains, arith}
use Rattle.crystal_cartan.specs.declared.types.Arrow.{Arrow}
use Rattle.tensor_words.specs.Spaces.{SpaceType, size}
use Rattle.tensor_words.specs.Operators.{IsArrow, op}
use Rattle.tensor_words.specs.Worlds.{WorldType}
use Rattle.tensor_words.specs.Reach.{walk}
use Rattle.graph_history.specs.declared.event.Origin.{Origin}
use Rattle.graph_history.specs.declared.event.Origin.TheVariants.{Root, By}
use Rattle.graph_history.specs.declared.event.Act.{Act}
use Rattle.graph_history.specs.declared.event.Act.TheVariants.{Added, Met, Missed, Spent, Drew, Saw, Blank, Owed, Settled, Tally}
use Rattle.graph_history.specs.declared.event.Event.{Event}
use Rattle.graph_history.specs.History.{Vertex, DrawnArrow, State, empty_state, after, state_from, state_of, vertex_at, target_at, HasVertex, HasArrow, IsOrigin, IsTarget, MayAdd, MayDraw, IsLegalAct, LegalFrom, IsLegal}
use Rattle.graph_history.specs.Laws.{Stays, IsReachedIn, IsSimple}
use Rattle.graph_history.proofs.Histories.{slice_get-push, vertex_at-push, vertex_at-new, target_at-push, target_at-new, same_edge, own_edge, stays_after}
use Rattle.tensor_words.proofs.Walks.{path-push, walk_more, walk-nil}

module _ (w : WorldType) where
  pub reached_stays : (s t : State) (x : ℕ) → Stays s t → IsReachedIn w s x → IsReachedIn w t x
  reached_stays s t x stays r = record {
    root = r.root;
    rooted = r.rooted;
    there = (r.there.0, stays.vertices r.there.0 r.root r.there.1);
    path = r.path;
    arrows = r.arrows;
    leads = r.leads;
  }

  pub reached_more : (s : State) (a : Arrow) (x y : ℕ) → IsReachedIn w s y → IsArrow w.space a → op w.space a y ≡ Some x → IsReachedIn w s x
  reached_more s a x y r is leads = record {
    root = r.root;
    rooted = r.rooted;
    there = r.there;
    path = r.path ++ a ∷ [];
    arrows = path-push w.space r.path a r.arrows is;
    leads = walk_more w.space r.path a r.root y x r.leads leads;
  }

  pub reached_root : (s : State) (c x : ℕ) → Contains w.roots x → HasVertex s c x → IsReachedIn w s x
  reached_root s c x rooted there = record {
    root = x;
    rooted = rooted;
    there = (c, there);
    path = [];
    arrows = tt;
    leads = walk-nil w.space x;
  }

  pub target_stays : (s t : State) (a : Arrow) (y : ℕ) (to : Option ℕ) → Stays s t → IsTarget w s a y to → IsTarget w t a y to
  target_stays s t a y None stays h = h
  target_stays s t a y (Some d) stays h = (h.0, h.1, stays.vertices d h.0 h.2)

  -- what holds of the state of each legal history
  pub record IsSound (s : State) : Type 0 where
    pub simple : IsSimple w s
    pub below : (c x : ℕ) → HasVertex s c x → c < w.cells
    pub words : (c x : ℕ) → HasVertex s c x → x < size w.space
    pub apart : (c d x : ℕ) → HasVertex s c x → HasVertex s d x → c ≡ d
    pub reached : (c x : ℕ) → HasVertex s c x → IsReachedIn w s x

  pub sound_empty : IsSound empty_state
  sound_empty = record {
    simple = record {
      vertex = λ k v h. cc;
      cells = λ i j u v p q e. cc;
      codes = λ i j u v p q e. cc;
      drawn = λ k d h. cc;
      arrows = λ i j d e p q m n. cc;
      targets = λ c a t h. cc;
    };
    below = λ c x h. cc;
    words = λ c x h. cc;
    apart = λ c d x p q. cc;
    reached = λ c x h. cc;
  }

  module _ (s : State) (c x : ℕ) (o : Origin) (S : IsSound s) (may : MayAdd w s c x o) where
    module _ where
      -- a vertex of the longer list is an old one or the new one
      either : (d y : ℕ) → HasVertex (after s (Added c x o)) d y → HasVertex s d y ⊎ ((c ≡ d) × (x ≡ y))
      either d y h = vertex_at-push s.vertices (record { cell = c; code = x }) d y h

      stays : Stays s (after s (Added c x o))
      stays = stays_after s (Added c x o)

      here : HasVertex (after s (Added c x o)) c x
      here = vertex_at-new s.vertices (record { cell = c; code = x }) may.free

      free : (d y : ℕ) → c ≡ d → HasVertex s d y → ⊥
      free d y e h = let f = may.free in let g : vertex_at s.vertices c ≡ Some y = rw e h in cc

      fresh : (d y : ℕ) → x ≡ y → HasVertex s d y → ⊥
      fresh d y e h = may.fresh d (rw e h)

      vertex : (k : ℕ) (v : Vertex) → slice_get (after s (Added c x o)).vertices k ≡ Some v → HasVertex (after s (Added c x o)) v.cell v.code
      vertex k v h = elim (slice_get-push s.vertices (record { cell = c; code = x }) k v h) [
        | inl old ↦ stays.vertices v.cell v.code (S.simple.vertex k v old)
        | inr new ↦ subst (λ (u : Vertex). HasVertex (after s (Added c x o)) u.cell u.code) new.1 here
      ]

      cells : (i j : ℕ) (u v : Vertex) → slice_get (after s (Added c x o)).vertices i ≡ Some u → slice_get (after s (Added c x o)).vertices j ≡ Some v → u.cell ≡ v.cell → i ≡ j
      cells i j u v p q e = elim (slice_get-push s.vertices (record { cell = c; code = x }) i u p) [
        | inl old ↦ elim (slice_get-push s.vertices (record { cell = c; code = x }) j v q) [
          | inl too ↦ S.simple.cells i j u v old too e
          | inr new ↦ absurd (free u.cell u.code (ap (λ (z : Vertex). z.cell) new.1 ∙ sym e) (S.simple.vertex i u old))
        ]
        | inr new ↦ elim (slice_get-push s.vertices (record { cell = c; code = x }) j v q) [
          | inl old ↦ absurd (free v.cell v.code (ap (λ (z : Vertex). z.cell) new.1 ∙ e) (S.simple.vertex j v old))
          | inr too ↦ new.0 ∙ sym too.0
        ]
      ]

      codes : (i j : ℕ) (u v : Vertex) → slice_get (after s (Added c x o)).vertices i ≡ Some u → slice_get (after s (Added c x o)).vertices j ≡ Some v → u.code ≡ v.code → i ≡ j
      codes i j u v p q e = elim (slice_get-push s.vertices (record { cell = c; code = x }) i u p) [
        | inl old ↦ elim (slice_get-push s.vertices (record { cell = c; code = x }) j v q) [
          | inl too ↦ S.simple.codes i j u v old too e
          | inr new ↦ absurd (fresh u.cell u.code (ap (λ (z : Vertex). z.code) new.1 ∙ sym e) (S.simple.vertex i u old))
        ]
        | inr new ↦ elim (slice_get-push s.vertices (record { cell = c; code = x }) j v q) [
          | inl old ↦ absurd (fresh v.cell v.code (ap (λ (z : Vertex). z.code) new.1 ∙ e) (S.simple.vertex j v old))
          | inr too ↦ new.0 ∙ sym too.0
        ]
      ]

      apart : (d e y : ℕ) → HasVertex (after s (Added c x o)) d y → HasVertex (after s (Added c x o)) e y → d ≡ e
      apart d e y p q = elim (either d y p) [
        | inl old ↦ elim (either e y q) [
          | inl too ↦ S.apart d e y old too
          | inr new ↦ absurd (fresh d y new.1 old)
        ]
        | inr new ↦ elim (either e y q) [
          | inl old ↦ absurd (fresh e y new.1 old)
          | inr too ↦ sym new.0 ∙ too.0
        ]
      ]

      from_origin : (from : Origin) → IsOrigin w s x from → IsReachedIn w (after s (Added c x o)) x
      from_origin Root rooted = reached_root (after s (Added c x o)) c x rooted here
      from_origin (By d a) (y, there, is, leads) =
          reached_more (after s (Added c x o)) a x y (reached_stays s (after s (Added c x o)) y stays (S.reached d y there)) is leads

      reached : (d y : ℕ) → HasVertex (after s (Added c x o)) d y → IsReachedIn w (after s (Added c x o)) y
      reached d y h = elim (either d y h) [
        | inl old ↦ reached_stays s (after s (Added c x o)) y stays (S.reached d y old)
        | inr new ↦ subst (λ (z : ℕ). IsReachedIn w (after s (Added c x o)) z) new.1 (from_origin o may.origin)
      ]

      pub sound_added : IsSound (after s (Added c x o))
      sound_added = record {
        simple = record {
          vertex = vertex;
          cells = cells;
          codes = codes;
          drawn = S.simple.drawn;
          arrows = S.simple.arrows;
          targets = λ d a t h. let old = S.simple.targets d a t h in
              (old.0, stays.vertices d old.0 old.1, target_stays s (after s (Added c x o)) a old.0 t stays old.2);
        };
        below = λ d y h. elim (either d y h) [ inl old ↦ S.below d y old | inr new ↦ let b = may.cell in omega (arith, new.0) ];
        words = λ d y h. elim (either d y h) [ inl old ↦ S.words d y old | inr new ↦ let b = may.word in subst (λ (z : ℕ). z < size w.space) new.1 b ];
        apart = apart;
        reached = reached;
      }

  module _ (s : State) (c : ℕ) (a : Arrow) (t : Option ℕ) (S : IsSound s) (may : MayDraw w s c a t) where
    module _ where
      still : Stays s (after s (Drew c a t))
      still = stays_after s (Drew c a t)

      drawn_here : HasArrow (after s (Drew c a t)) c a t
      drawn_here = target_at-new s.drawn (record { cell = c; arrow = a; to = t }) c a (own_edge c c a a refl refl) may.undrawn

      blank : (d : ℕ) (b : Arrow) (u : Option ℕ) → d ≡ c → b ≡ a → HasArrow s d b u → ⊥
      blank d b u e f h =
          let f' = may.undrawn in
          let g : target_at s.drawn c a ≡ Some u = subst (λ (z : ℕ). target_at s.drawn z a ≡ Some u) e (subst (λ (z : Arrow). target_at s.drawn d z ≡ Some u) f h) in cc

      drawn : (k : ℕ) (d : DrawnArrow) → slice_get (after s (Drew c a t)).drawn k ≡ Some d → HasArrow (after s (Drew c a t)) d.cell d.arrow d.to
      drawn k d h = elim (slice_get-push s.drawn (record { cell = c; arrow = a; to = t }) k d h) [
        | inl old ↦ still.arrows d.cell d.arrow d.to (S.simple.drawn k d old)
        | inr new ↦ subst (λ (z : DrawnArrow). HasArrow (after s (Drew c a t)) z.cell z.arrow z.to) new.1 drawn_here
      ]

      arrows : (i j : ℕ) (d e : DrawnArrow) → slice_get (after s (Drew c a t)).drawn i ≡ Some d → slice_get (after s (Drew c a t)).drawn j ≡ Some e → d.cell ≡ e.cell → d.arrow ≡ e.arrow → i ≡ j
      arrows i j d e p q m n = elim (slice_get-push s.drawn (record { cell = c; arrow = a; to = t }) i d p) [
        | inl old ↦ elim (slice_get-push s.drawn (record { cell = c; arrow = a; to = t }) j e q) [
          | inl too ↦ S.simple.arrows i j d e old too m n
          | inr new ↦ absurd (blank d.cell d.arrow d.to (m ∙ sym (ap (λ (z : DrawnArrow). z.cell) new.1)) (n ∙ sym (ap (λ (z : DrawnArrow). z.arrow) new.1)) (S.simple.drawn i d old))
        ]
        | inr new ↦ elim (slice_get-push s.drawn (record { cell = c; arrow = a; to = t }) j e q) [
          | inl old ↦ absurd (blank e.cell e.arrow e.to (sym m ∙ sym (ap (λ (z : DrawnArrow). z.cell) new.1)) (sym n ∙ sym (ap (λ (z : DrawnArrow). z.arrow) new.1)) (S.simple.drawn j e old))
          | inr too ↦ new.0 ∙ sym too.0
        ]
      ]

      targets : (d : ℕ) (b : Arrow) (u : Option ℕ) → HasArrow (after s (Drew c a t)) d b u → (y : ℕ) × HasVertex (after s (Drew c a t)) d y × IsTarget w (after s (Drew c a t)) b y u
      targets d b u h = elim (target_at-push s.drawn (record { cell = c; arrow = a; to = t }) d b u h) [
        | inl old ↦ let known = S.simple.targets d b u old in (known.0, known.1, target_stays s (after s (Drew c a t)) b known.0 u still known.2)
        | inr new ↦
            let edge = same_edge c d a b new.0 in (
              may.code,
              subst (λ (z : ℕ). HasVertex s z may.code) edge.0 may.there,
              subst (λ (z : Arrow). IsTarget w (after s (Drew c a t)) z may.code u) edge.1
                  (subst (λ (z : Option ℕ). IsTarget w (after s (Drew c a t)) a may.code z) new.1 (target_stays s (after s (Drew c a t)) a may.code t still may.target)),
            )
      ]

      pub sound_drew : IsSound (after s (Drew c a t))
      sound_drew = record {
        simple = record { vertex = S.simple.vertex; cells = S.simple.cells; codes = S.simple.codes; drawn = drawn; arrows = arrows; targets = targets };
        below = S.below;
        words = S.words;
        apart = S.apart;
        reached = λ d y h. reached_stays s (after s (Drew c a t)) y still (S.reached d y h);
      }

  -- nothing of it speaks of debts
  pub sound_debts : (s : State) (n : ℕ) → IsSound s → IsSound (record s { debts = n })
  sound_debts s n S = record {
    simple = record {
      vertex = S.simple.vertex;
      cells = S.simple.cells;
      codes = S.simple.codes;
      drawn = S.simple.drawn;
      arrows = S.simple.arrows;
      targets = λ c a t h. let old = S.simple.targets c a t h in (old.0, old.1, target_stays s (record s { debts = n }) a old.0 t still old.2);
    };
    below = S.below;
    words = S.words;
    apart = S.apart;
    reached = λ c x h. reached_stays s (record s { debts = n }) x still (S.reached c x h);
  }
    where
      still : Stays s (record s { debts = n })
      still = record { vertices = λ c x h. h; arrows = λ c a to h. h }

  pub sound_after : (s : State) (act : Act) → IsSound s → IsLegalAct w s act → IsSound (after s act)
  sound_after s (Added c x o) S may = sound_added s c x o S may
  sound_after s (Met c x) S may = S
  sound_after s (Missed x) S may = S
  sound_after s (Spent x) S may = S
  sound_after s (Drew c a t) S may = sound_drew s c a t S may
  sound_after s (Saw c a t) S may = S
  sound_after s (Blank c a) S may = S
  sound_after s Owed S may = sound_debts s (s.debts + 1) S
  sound_after s (Settled paid) S may = sound_debts s (s.debts - 1) S
  sound_after s (Tally n) S may = S

  pub sound_from : (s : State) (es : List Event) → IsSound s → LegalFrom w s es → IsSound (state_from s es)
  sound_from s [] S legal = S
  sound_from s (e ∷ es) S legal = sound_from (after s e.act) es (sound_after s e.act S legal.0) legal.1

  pub sound : (h : List Event) → IsLegal w h → IsSound (state_of h)
  unfolding IsLegal
  sound h legal = sound_from empty_state h sound_empty legal

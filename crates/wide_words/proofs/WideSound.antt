-- What holds of every legal wide history.
use Rattle.std.proofs.Common.{◌≡◌, refl, ap, subst, ◌∙◌, ℕ, zero, suc, ◌+◌, ◌<◌, ◌≤◌, inl, inr, true, eqb-true, nat_eq, List, [], ◌∷◌, ◌++◌, length, take, slice_get, Some, length-append, Contains, arith}
use Rattle.std.specs.List.{list_any, IsDistinct}
use Rattle.std.specs.Cmp.{nat_eq_equiv}
use Rattle.std.proofs.lemmas.List.Elements.{Contains-push_cases}
use Rattle.std.proofs.lemmas.Map.Keys.{IsDistinct-push}
use Rattle.std.proofs.lemmas.Map.Made.{length-le_from_is_member}
use Rattle.std.proofs.lemmas.Map.Steps.{length-le_from_distinct_below}
use Rattle.std.proofs.lemmas.Map.Views.{list_any-from_Contains, Contains-from_any}
use Rattle.tensor_words.specs.Worlds.{WorldType}
use Rattle.tensor_words.specs.Reach.{IsReached, Outnumber}
use Rattle.graph_history.specs.declared.event.Origin.{Origin}
use Rattle.graph_history.specs.declared.event.Act.{Act}
use Rattle.graph_history.specs.declared.event.Act.TheVariants.{Added, Met, Missed, Spent, Drew, Saw, Blank, Owed, Settled, Tally}
use Rattle.graph_history.specs.declared.event.Event.{Event}
use Rattle.graph_history.specs.History.{Vertex, State, empty_state, after, state_from, state_of, HasVertex, unfinished}
use Rattle.graph_history.specs.Laws.{IsReachedIn}
use Rattle.graph_history.proofs.Histories.{around, state_from-append, vertices_from}
use Rattle.graph_history.proofs.VertexLists.{keys, length-keys, key_at, has_key, no_key, AreApart, distinct_keys, vertex_in}
use Rattle.graph_history.proofs.SoundStates.{IsSound, sound_empty, sound_added, sound_drew, sound_debts}
use Rattle.graph_history.proofs.Components.{closed_walk, code, reached_from, origin_reached}
use Rattle.graph_history.proofs.Owing.{origin_debts}
use Rattle.wide_words.specs.WideHistory.{WideWorldType, flat, counted, MayAddWide, MaySpendWide, IsWideAct, WideLegalFrom, IsWideLegal}
use Rattle.wide_words.specs.WideLaws.{WideStatesAreSimple, VerticesArePairs, WideVerticesAreReached, WideClosedIsReached, WideClosedIsComponents, WideSpentOutnumbers, WideVerticesFit, WideClosedFits}
use Rattle.wide_words.proofs.WideCodes.{one_pair}

-- how legality splits over an append
pub wide_both : (w : WideWorldType) (s : State) (f g : List Event) → WideLegalFrom w s f → WideLegalFrom w (state_from s f) g → WideLegalFrom w s (f ++ g)
wide_both w s [] g p q = q
wide_both w s (e ∷ f) g p q = (p.0, wide_both w (after s e.act) f g p.1 q)

pub wide_front_from : (w : WideWorldType) (s : State) (f g : List Event) → WideLegalFrom w s (f ++ g) → WideLegalFrom w s f
wide_front_from w s [] g p = tt
wide_front_from w s (e ∷ f) g p = (p.0, wide_front_from w (after s e.act) f g p.1)

pub wide_rest_from : (w : WideWorldType) (s : State) (f g : List Event) → WideLegalFrom w s (f ++ g) → WideLegalFrom w (state_from s f) g
wide_rest_from w s [] g p = p
wide_rest_from w s (e ∷ f) g p = wide_rest_from w (after s e.act) f g p.1

pub wide_empty : (w : WideWorldType) → IsWideLegal w []
unfolding IsWideLegal
wide_empty w = tt

-- one more event, a front, and what comes after a front
pub wide_push : (w : WideWorldType) (h : List Event) (e : Event) → IsWideLegal w h → IsWideAct w (state_of h) e.act → IsWideLegal w (h ++ e ∷ [])
unfolding IsWideLegal
wide_push w h e p q = wide_both w empty_state h (e ∷ []) p (q, tt)

pub wide_front : (w : WideWorldType) (f g : List Event) → IsWideLegal w (f ++ g) → IsWideLegal w f
unfolding IsWideLegal
wide_front w f g p = wide_front_from w empty_state f g p

pub wide_rest : (w : WideWorldType) (f g : List Event) → IsWideLegal w (f ++ g) → WideLegalFrom w (state_of f) g
unfolding IsWideLegal
wide_rest w f g p = wide_rest_from w empty_state f g p

-- the event at a place is legal in the state of those before it
pub wide_at : (w : WideWorldType) (f : List Event) (e : Event) (g : List Event) → IsWideLegal w (f ++ e ∷ g) → IsWideAct w (state_of f) e.act
wide_at w f e g p = (wide_rest w f (e ∷ g) p).0

module _ (w : WorldType) where
  -- the words reached do not depend on the number of cells
  pub reached_cells : (n x : ℕ) → IsReached w x → IsReached (record w { cells = n }) x
  reached_cells n x r = record { root = r.root; rooted = r.rooted; path = r.path; arrows = r.arrows; leads = r.leads }

module _ (w : WideWorldType) where
  pub wide_sound_added : (s : State) (c x : ℕ) (o : Origin) → IsSound (flat w) s → MayAddWide w s c x o → IsSound (flat w) (after s (Added c x o))
  wide_sound_added s c x o S may =
      let n : ℕ = unfinished (flat w) s + 1 in
      let t : State = record s { debts = n } in
      let added : IsSound (flat w) (after t (Added c x o)) = sound_added (flat w) t c x o (sound_debts (flat w) s n S) (record {
        word = may.word;
        fresh = may.fresh;
        cell = may.cell;
        free = may.free;
        origin = origin_debts (flat w) s n x o may.origin;
        owed = omega arith;
      }) in
      sound_debts (flat w) (after t (Added c x o)) s.debts added

  pub wide_sound_after : (s : State) (act : Act) → IsSound (flat w) s → IsWideAct w s act → IsSound (flat w) (after s act)
  wide_sound_after s (Added c x o) S may = wide_sound_added s c x o S may
  wide_sound_after s (Met c x) S may = S
  wide_sound_after s (Missed x) S may = S
  wide_sound_after s (Spent x) S may = S
  wide_sound_after s (Drew c a t) S may = sound_drew (flat w) s c a t S may
  wide_sound_after s (Saw c a t) S may = S
  wide_sound_after s (Blank c a) S may = S
  wide_sound_after s Owed S may = absurd may
  wide_sound_after s (Settled paid) S may = absurd may
  wide_sound_after s (Tally n) S may = absurd may

  pub wide_sound_from : (s : State) (es : List Event) → IsSound (flat w) s → WideLegalFrom w s es → IsSound (flat w) (state_from s es)
  wide_sound_from s [] S legal = S
  wide_sound_from s (e ∷ es) S legal = wide_sound_from (after s e.act) es (wide_sound_after s e.act S legal.0) legal.1

  pub wide_sound : (h : List Event) → IsWideLegal w h → IsSound (flat w) (state_of h)
  unfolding IsWideLegal
  wide_sound h legal = wide_sound_from empty_state h (sound_empty (flat w)) legal

pub wide_states_are_simple : WideStatesAreSimple
wide_states_are_simple w h legal = (wide_sound w h legal).simple

pub vertices_are_pairs : VerticesArePairs
vertices_are_pairs w h x space legal (c, there) = one_pair w.space x space ((wide_sound w h legal).words c x there)

pub wide_vertices_are_reached : WideVerticesAreReached
wide_vertices_are_reached w h x legal (c, there) = (wide_sound w h legal).reached c x there

pub wide_closed_is_reached : WideClosedIsReached
wide_closed_is_reached w h x legal closed = (
  λ here. wide_vertices_are_reached w h x legal here,
  λ r. closed_walk (flat w) (state_of h) (wide_sound w h legal) closed r.path r.root x r.there r.arrows r.leads,
)

pub wide_closed_is_components : WideClosedIsComponents
wide_closed_is_components w h codes legal closed roots listed = record {
  ascending = listed.ascending;
  sound = λ x among. reached_from (flat w) (state_of h) x (wide_vertices_are_reached w h x legal (listed.vertices x among));
  complete = λ x r. listed.all x (closed_walk (flat w) (state_of h) (wide_sound w h legal) closed r.path r.root x (roots r.root r.rooted) r.arrows r.leads);
}

-- the first vertices of a list
taken_at : (n : ℕ) (vs : List Vertex) (k : ℕ) (v : Vertex) → slice_get (take n vs) k ≡ Some v → slice_get vs k ≡ Some v
taken_at zero vs k v h = cc
taken_at (suc n) [] k v h = cc
taken_at (suc n) (u ∷ vs) zero v h = h
taken_at (suc n) (u ∷ vs) (suc k) v h = taken_at n vs k v h

taken_length : (n : ℕ) (vs : List Vertex) → n ≤ length vs → length (take n vs) ≡ n
taken_length zero vs few = refl
taken_length (suc n) [] few = absurd (omega arith)
taken_length (suc n) (v ∷ vs) few = ap suc (taken_length n vs (omega arith))

-- the codes of the first vertices are different, and those of reached words
module _ (w : WideWorldType) (s : State) (S : IsSound (flat w) s) (n : ℕ) where
  taken_apart : AreApart code (take n s.vertices)
  taken_apart i j u v p q same = S.simple.codes i j u v (taken_at n s.vertices i u p) (taken_at n s.vertices j v q) same

  taken_distinct : IsDistinct nat_eq (keys code (take n s.vertices))
  taken_distinct = distinct_keys code (take n s.vertices) taken_apart

  taken_reached : (y : ℕ) → Contains (keys code (take n s.vertices)) y → IsReached (counted w) y
  taken_reached y among =
      let at = key_at code (take n s.vertices) y among in
      let old = taken_at n s.vertices at.0 at.1 at.2 in
      reached_cells (flat w) w.capacity y (reached_from (flat w) s y (subst (λ (q : ℕ). IsReachedIn (flat w) s q) at.3 (S.reached at.1.cell at.1.code (S.simple.vertex at.0 at.1 old))))

spent_here : (w : WideWorldType) (s : State) (x : ℕ) → IsSound (flat w) s → MaySpendWide w s x → Outnumber (counted w)
spent_here w s x S may =
    let first : List Vertex = take w.capacity s.vertices in
    record {
      codes = keys code first ++ x ∷ [];
      many = length-append (keys code first) (x ∷ []) ∙ ap (λ n. n + 1) (length-keys code first ∙ taken_length w.capacity s.vertices may.full);
      distinct = IsDistinct-push nat_eq_equiv (keys code first) x (taken_distinct w s S w.capacity)
          (no_key code first x (λ k v at is. may.fresh v.cell (subst (λ (q : ℕ). HasVertex s v.cell q) is (S.simple.vertex k v (taken_at w.capacity s.vertices k v at)))));
      sound = λ y among. elim (Contains-push_cases (keys code first) x y among) [
        | inl old ↦ taken_reached w s S w.capacity y old
        | inr new ↦ subst (λ (q : ℕ). IsReached (counted w) q) new (reached_cells (flat w) w.capacity x (origin_reached (flat w) s x may.origin S may.cause))
      ];
    }

pub wide_spent_outnumbers : WideSpentOutnumbers
wide_spent_outnumbers w h n x legal there =
    let parts = around h _ there in
    let split : IsWideLegal w (parts.0 ++ record { caller = n; act = Spent x } ∷ parts.1) = subst (λ (q : List Event). IsWideLegal w q) parts.2 legal in
    spent_here w (state_of parts.0) x (wide_sound w parts.0 (wide_front w parts.0 _ split)) (wide_at w parts.0 _ parts.1 split)

abbrev cell : Vertex → ℕ
cell v = v.cell

pub wide_vertices_fit : WideVerticesFit
wide_vertices_fit w h legal =
    let few : length (keys cell vs) ≤ (flat w).cells = length-le_from_distinct_below (keys cell vs) (flat w).cells (distinct_keys cell vs S.simple.cells) below in
    let long = length-keys cell vs in
    omega arith
  where
    vs : List Vertex
    vs = (state_of h).vertices

    S : IsSound (flat w) (state_of h)
    S = wide_sound w h legal

    below : (q : ℕ) → list_any (nat_eq q) (keys cell vs) ≡ true → q < (flat w).cells
    below q is =
        let found = key_at cell vs q (Contains-from_any eqb-true q (keys cell vs) is) in
        subst (λ (c : ℕ). c < (flat w).cells) found.3 (S.below found.1.cell found.1.code (S.simple.vertex found.0 found.1 found.2))

-- where there are more vertices than the capacity the reached words outnumber it, since each vertex is reached and no two
-- have the same word
pub many_outnumber : (w : WideWorldType) (h : List Event) → IsWideLegal w h → w.capacity < length (state_of h).vertices → Outnumber (counted w)
many_outnumber w h legal more =
    let S = wide_sound w h legal in
    let first : List Vertex = take (w.capacity + 1) (state_of h).vertices in
    record {
      codes = keys code first;
      many = length-keys code first ∙ taken_length (w.capacity + 1) (state_of h).vertices (omega arith);
      distinct = taken_distinct w (state_of h) S (w.capacity + 1);
      sound = taken_reached w (state_of h) S (w.capacity + 1);
    }

pub wide_closed_fits : WideClosedFits
wide_closed_fits w h legal closed roots = (many, many_outnumber w h legal)
  where
    vs : List Vertex
    vs = (state_of h).vertices

    S : IsSound (flat w) (state_of h)
    S = wide_sound w h legal

    many : Outnumber (counted w) → w.capacity < length vs
    many outnumber =
        let few : length outnumber.codes ≤ length (keys code vs) = length-le_from_is_member nat_eq_equiv outnumber.codes (keys code vs) outnumber.distinct (λ q is. there outnumber q is) in
        let long = length-keys code vs in
        let all = outnumber.many in
        omega arith
      where
        there : (o : Outnumber (counted w)) (q : ℕ) → list_any (nat_eq q) o.codes ≡ true → list_any (nat_eq q) (keys code vs) ≡ true
        there o q is =
            let r = o.sound q (Contains-from_any eqb-true q o.codes is) in
            let at = closed_walk (flat w) (state_of h) S closed r.path r.root q (roots r.root r.rooted) r.arrows r.leads in
            let place = vertex_in vs at.0 q at.1 in
            list_any-from_Contains nat_eq_equiv q (keys code vs) (has_key code vs place.0 (record { cell = at.0; code = q }) place.1)

-- the number of vertices never falls
pub vertices_stay_many : (f g : List Event) → length (state_of f).vertices ≤ length (state_of (f ++ g)).vertices
vertices_stay_many f g =
    let all = ap (λ (s : State). length s.vertices) (state_from-append empty_state f g) in
    let more = vertices_from (state_of f) g in
    let long = ap (λ (vs : List Vertex). length vs) more.1 ∙ length-append (state_of f).vertices more.0 in
    omega arith

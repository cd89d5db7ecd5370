-- What is reached from the vertices, closed graphs, and full ones.
use Rattle.std.proofs.Common.{◌≡◌, refl, sym, ap, subst, ◌∙◌, ℕ, ◌+◌, inl, inr, ◌≤◌, true, eqb-true, nat_eq, List, [], ◌∷◌, ◌++◌, length, Option, Some, None, length-append, arith}
use Rattle.std.specs.List.{list_any}
use Rattle.std.specs.Option.{option_and_then}
use Rattle.std.specs.Cmp.{nat_eq_equiv}
use Rattle.std.proofs.lemmas.List.Elements.{Contains-push_cases}
use Rattle.std.proofs.lemmas.Map.Keys.{IsDistinct-push}
use Rattle.std.proofs.lemmas.Map.Made.{length-le_from_is_member}
use Rattle.std.proofs.lemmas.Map.Views.{list_any-from_Contains, Contains-from_any}
use Rattle.crystal_cartan.specs.declared.types.Arrow.{Arrow}
use Rattle.tensor_words.specs.Operators.{IsArrow, op}
use Rattle.tensor_words.specs.Worlds.{WorldType}
use Rattle.tensor_words.specs.Reach.{IsPath, walk, IsReached, Outnumber}
use Rattle.graph_history.specs.declared.event.Origin.{Origin}
use Rattle.graph_history.specs.declared.event.Origin.TheVariants.{Root, By}
use Rattle.graph_history.specs.declared.event.Act.TheVariants.{Spent}
use Rattle.graph_history.specs.declared.event.Event.{Event}
use Rattle.graph_history.specs.History.{Vertex, State, empty_state, state_of, HasVertex, HasCode, IsOrigin, IsTarget, MaySpend, LegalFrom, IsLegal, IsClosed}
use Rattle.graph_history.specs.Laws.{IsReachedIn, VerticesAreReached, ClosedIsReached, ClosedIsComponents, ClosedFits, SpentOutnumbers}
use Rattle.graph_history.proofs.Histories.{one_code, around, legal_prefix, legal_rest}
use Rattle.graph_history.proofs.VertexLists.{keys, length-keys, key_at, has_key, no_key, distinct_keys, vertex_in}
use Rattle.graph_history.proofs.Fitting.{vertices_fit}
use Rattle.tensor_words.proofs.Walks.{walk-nil}
use Rattle.graph_history.proofs.SoundStates.{IsSound, sound, reached_more}

pub vertices_are_reached : VerticesAreReached
vertices_are_reached w h x legal (c, there) = (sound w h legal).reached c x there

module _ (w : WorldType) (s : State) (S : IsSound w s) (closed : IsClosed w s) where
  -- a drawn arrow of a vertex leads on to a vertex
  step_target : (c y x : ℕ) (a : Arrow) (t : Option ℕ) → HasVertex s c y → op w.space a y ≡ Some x → IsTarget w s a y t → HasCode s x
  step_target c y x a None there leads target = let e : None ≡ Some x = sym target ∙ leads in cc
  step_target c y x a (Some d) there leads (z, is, at) =
      let e : Some z ≡ Some x = sym is ∙ leads in
      let same : z ≡ x = cc in (d, subst (λ (q : ℕ). HasVertex s d q) same at)

  closed_step : (y x : ℕ) (a : Arrow) → HasCode s y → IsArrow w.space a → op w.space a y ≡ Some x → HasCode s x
  closed_step y x a (c, there) is leads =
      let drawn = closed c (y, there) a is in
      let known = S.simple.targets c a drawn.0 drawn.1 in
      let same : known.0 ≡ y = one_code s c known.0 y known.1 there in
      step_target c y x a drawn.0 there leads (subst (λ (q : ℕ). IsTarget w s a q drawn.0) same known.2)

  pub closed_walk : (path : List Arrow) (y x : ℕ) → HasCode s y → IsPath w.space path → walk w.space path y ≡ Some x → HasCode s x
  unfolding walk
  closed_walk [] y x here arrows leads = let same : y ≡ x = cc in subst (λ (q : ℕ). HasCode s q) same here
  closed_walk (a ∷ path) y x here arrows leads = by (op w.space a y) refl leads (λ z. closed_walk path z x)
    where
      by : (o : Option ℕ) → op w.space a y ≡ o → option_and_then (walk w.space path) o ≡ Some x → ((z : ℕ) → HasCode s z → IsPath w.space path → walk w.space path z ≡ Some x → HasCode s x) → HasCode s x
      by None is rest on = cc
      by (Some z) is rest on = on z (closed_step y z a here arrows.0 is) arrows.1 rest

pub closed_is_reached : ClosedIsReached
closed_is_reached w h x legal closed = (
  λ here. vertices_are_reached w h x legal here,
  λ r. closed_walk w (state_of h) (sound w h legal) closed r.path r.root x r.there r.arrows r.leads,
)

abbrev pub code : Vertex → ℕ
code v = v.code

module _ (w : WorldType) where
  pub reached_from : (s : State) (x : ℕ) → IsReachedIn w s x → IsReached w x
  reached_from s x r = record { root = r.root; rooted = r.rooted; path = r.path; arrows = r.arrows; leads = r.leads }

  pub origin_reached : (s : State) (x : ℕ) (o : Origin) → IsSound w s → IsOrigin w s x o → IsReached w x
  origin_reached s x Root S rooted = record { root = x; rooted = rooted; path = []; arrows = tt; leads = walk-nil w.space x }
  origin_reached s x (By c a) S (y, there, is, leads) = reached_from s x (reached_more w s a x y (S.reached c y there) is leads)

pub closed_is_components : ClosedIsComponents
closed_is_components w h codes legal closed roots listed = record {
  ascending = listed.ascending;
  sound = λ x among. reached_from w (state_of h) x (vertices_are_reached w h x legal (listed.vertices x among));
  complete = λ x r. listed.all x (closed_walk w (state_of h) (sound w h legal) closed r.path r.root x (roots r.root r.rooted) r.arrows r.leads);
}

spent_here : (w : WorldType) (s : State) (x : ℕ) → IsSound w s → MaySpend w s x → Outnumber w
spent_here w s x S may = record {
  codes = keys code s.vertices ++ x ∷ [];
  many = length-append (keys code s.vertices) (x ∷ []) ∙ ap (λ n. n + 1) (length-keys code s.vertices ∙ may.full);
  distinct = IsDistinct-push nat_eq_equiv (keys code s.vertices) x (distinct_keys code s.vertices S.simple.codes)
      (no_key code s.vertices x (λ k v at is. may.fresh v.cell (subst (λ (q : ℕ). HasVertex s v.cell q) is (S.simple.vertex k v at))));
  sound = λ y among. elim (Contains-push_cases (keys code s.vertices) x y among) [
    | inl old ↦ let at = key_at code s.vertices y old in
        reached_from w s y (subst (λ (q : ℕ). IsReachedIn w s q) at.3 (S.reached at.1.cell at.1.code (S.simple.vertex at.0 at.1 at.2)))
    | inr new ↦ subst (λ (q : ℕ). IsReached w q) new (origin_reached w s x may.origin S may.cause)
  ];
}

pub spent_outnumbers : SpentOutnumbers
unfolding IsLegal
spent_outnumbers w h n x legal there =
    let parts = around h _ there in
    let split : LegalFrom w empty_state (parts.0 ++ record { caller = n; act = Spent x } ∷ parts.1) = subst (λ (q : List Event). LegalFrom w empty_state q) parts.2 legal in
    spent_here w (state_of parts.0) x (sound w parts.0 (legal_prefix w parts.0 _ split)) (legal_rest w empty_state parts.0 _ split).0

-- the words of a closed graph that has all roots are no more than its vertices
pub closed_fits : ClosedFits
closed_fits w h legal closed roots outnumber =
    let S = sound w h legal in
    let few : length outnumber.codes ≤ length (keys code (state_of h).vertices) = length-le_from_is_member nat_eq_equiv outnumber.codes (keys code (state_of h).vertices) outnumber.distinct (there S) in
    let long = length-keys code (state_of h).vertices in
    let fit = vertices_fit w h legal in
    let many = outnumber.many in
    omega arith
  where
    there : IsSound w (state_of h) → (q : ℕ) → list_any (nat_eq q) outnumber.codes ≡ true → list_any (nat_eq q) (keys code (state_of h).vertices) ≡ true
    there S q is =
        let r = outnumber.sound q (Contains-from_any eqb-true q outnumber.codes is) in
        let at = closed_walk w (state_of h) S closed r.path r.root q (roots r.root r.rooted) r.arrows r.leads in
        let place = vertex_in (state_of h).vertices at.0 q at.1 in
        list_any-from_Contains nat_eq_equiv q (keys code (state_of h).vertices) (has_key code (state_of h).vertices place.0 (record { cell = at.0; code = q }) place.1)

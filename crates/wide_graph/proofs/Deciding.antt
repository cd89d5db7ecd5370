-- What the one event of a call shows.
use Rattle.std.proofs.Common.{◌≡◌, refl, sym, ap, subst, ◌∙◌, ℕ, ◌≤◌, Bool, true, false, List, [], ◌∷◌, ◌++◌, length, Option, Some, None, MatchOption}
use Rattle.crystal_cartan.specs.declared.types.Arrow.{Arrow}
use Rattle.graph_history.specs.declared.event.Origin.{Origin}
use Rattle.graph_history.specs.declared.event.Act.{Act}
use Rattle.graph_history.specs.declared.event.Act.TheVariants.{Added as AddedAct, Met, Missed, Spent, Drew, Saw}
use Rattle.graph_history.specs.declared.event.Event.{Event}
use Rattle.graph_history.specs.declared.answer.Added.{Added}
use Rattle.graph_history.specs.declared.answer.Added.TheVariants.{New, Old, Full}
use Rattle.graph_history.specs.History.{State, after, state_of, HasVertex, HasArrow, IsNew}
use Rattle.graph_history.proofs.Histories.{state_push, vertex_at-new, target_at-new, own_edge}
use Rattle.graph_rule.specs.Told.{drawn_acts}
use Rattle.wide_words.specs.declared.spaces.WideCode.{WideCode}
use Rattle.wide_words.specs.WideSpaces.{number}
use Rattle.wide_words.specs.WideHistory.{WideWorldType, IsWideAct, IsWideLegal}
use Rattle.wide_words.proofs.WideSound.{wide_at}
use Rattle.wide_rule.specs.declared.dues.WideDues.{WideDues}
use Rattle.wide_rule.specs.Rule.{WideView}
use Rattle.wide_rule.specs.Told.{Advances}
use Rattle.wide_rule.specs.Values.{WideGraphValue, WideSeatValue, Belongs}
use Rattle.wide_graph.specs.Entries.{Ends, Enters, IsAddedIn, Finds}

-- the one act of a step was legal where it was done
step_state : (v w : WideView) (act : Act) (dues : WideDues) → Advances v w (act ∷ []) dues → (s : State) × IsWideAct w.world s act × (state_of w.front ≡ after s act)
step_state v w act dues a =
    let is = ap (λ (z : WideView). z.front) a.is in
    let h = v.front ++ a.between in
    let e : Event = record { caller = v.number; act = act } in
    let legal = subst (λ (l : List Event). IsWideLegal w.world l) is a.known.legal in
    (state_of h, wide_at w.world h e [] legal, ap state_of is ∙ state_push h e)

module _ (v w : WideView) (x : ℕ) (more : List ℕ) where
  world_ends : (act : Act) → Ends v w act more → w.world ≡ v.world
  world_ends act e = ap (λ (z : WideView). z.world) e.advances.is

  added_there : (c : ℕ) (o : Origin) → Ends v w (AddedAct c x o) more → HasVertex (state_of w.front) c x
  added_there c o e =
      let r = step_state v w (AddedAct c x o) e.dues e.advances in
      subst (λ (s : State). HasVertex s c x) (sym r.2) (vertex_at-new r.0.vertices (record { cell = c; code = x }) r.1.free)

  met_there : (c : ℕ) → Ends v w (Met c x) more → HasVertex (state_of w.front) c x
  met_there c e = let r = step_state v w (Met c x) e.dues e.advances in subst (λ (s : State). HasVertex s c x) (sym r.2) r.1

  missed_new : Ends v w (Missed x) more → IsNew (state_of w.front) x
  missed_new e =
      let r = step_state v w (Missed x) e.dues e.advances in
      λ c there. r.1.fresh c (subst (λ (s : State). HasVertex s c x) r.2 there)

  spent_full : Ends v w (Spent x) more → IsNew (state_of w.front) x × (v.world.capacity ≤ length (state_of w.front).vertices)
  spent_full e =
      let r = step_state v w (Spent x) e.dues e.advances in
      let full = subst (λ (s : State). w.world.capacity ≤ length s.vertices) (sym r.2) r.1.full in (
        λ c there. r.1.fresh c (subst (λ (s : State). HasVertex s c x) r.2 there),
        subst (λ (k : WideWorldType). k.capacity ≤ length (state_of w.front).vertices) (world_ends (Spent x) e) full,
      )

-- the answer of an entry, and of a search, is that of the front which is left
by_entry : (v w : WideView) (x : ℕ) (o : Origin) (answer : Added) → Enters v w x o answer → IsAddedIn v.world (state_of w.front) x answer
by_entry v w x o (New c) e = added_there v w x (c ∷ []) c o e
by_entry v w x o (Old c) e = met_there v w x [] c e
by_entry v w x o Full e = spent_full v w x [] e

by_search : (v w : WideView) (x : ℕ) (answer : Option ℕ) → Finds v w x answer → MatchOption answer (IsNew (state_of w.front) x) (λ c. HasVertex (state_of w.front) c x)
by_search v w x (Some c) e = met_there v w x [] c e
by_search v w x None e = missed_new v w x [] e

module _ (first : WideSeatValue) (g : WideGraphValue) (b : Belongs first g) (w : WideView) (x : WideCode) where
  pub added_in : (o : Origin) (answer : Added) → Enters first.view w (number first.view.world.space x) o answer → IsAddedIn g.world (state_of w.front) (number g.world.space x) answer
  added_in o answer e =
      subst (λ (k : WideWorldType). IsAddedIn k (state_of w.front) (number k.space x) answer) b.world
      (by_entry first.view w (number first.view.world.space x) o answer e)

  pub found_in : (answer : Option ℕ) → Finds first.view w (number first.view.world.space x) answer
      → MatchOption answer (IsNew (state_of w.front) (number g.world.space x)) (λ c. HasVertex (state_of w.front) c (number g.world.space x))
  found_in answer e =
      subst (λ (k : WideWorldType). MatchOption answer (IsNew (state_of w.front) (number k.space x)) (λ c. HasVertex (state_of w.front) c (number k.space x))) b.world
      (by_search first.view w (number first.view.world.space x) answer e)

-- after a drawing the arrow is drawn, whoever did it
pub drawn_then : (v w : WideView) (dues : WideDues) (c : ℕ) (a : Arrow) (t : Option ℕ) (b : Bool) → Advances v w (drawn_acts c a t b) dues → HasArrow (state_of w.front) c a t
drawn_then v w dues c a t true step =
    let r = step_state v w (Drew c a t) dues step in
    subst (λ (s : State). HasArrow s c a t) (sym r.2) (target_at-new r.0.drawn (record { cell = c; arrow = a; to = t }) c a (own_edge c c a a refl refl) r.1.undrawn)
drawn_then v w dues c a t false step =
    let r = step_state v w (Saw c a t) dues step in subst (λ (s : State). HasArrow s c a t) (sym r.2) r.1

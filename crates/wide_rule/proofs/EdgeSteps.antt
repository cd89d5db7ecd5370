-- The steps on arrows: loads, and the exchange that draws an arrow.
use Rattle.std.proofs.Common.{◌≡◌, ◌≢◌, refl, sym, ap, subst, ◌∙◌, ℕ, ◌+◌, ◌*◌, ◌<◌, ◌==◌, ◌⊎◌, inl, inr, Bool, false, eqb, List, [], ◌∷◌, set, slice_index, Option, Some, None, Contains, arith}
use Rattle.std.proofs.lemmas.Bool.{ne_eqb}
use Rattle.std.proofs.lemmas.List.{set-get_or, get_or-set_other, length-set}
use mathlib.Core.Option.{some, none}
use lib.ListN.{get_elem?}
use prog.Atomic.{either}
use Rattle.atomic_table.specs.Table.{State as TableState, Me, Step, step, Allows, Act as TableAct, Valid, carried_after, keeps}
use Rattle.atomic_table.proofs.Lists.{exchanged}
use Rattle.crystal_cartan.specs.declared.types.Arrow.{Arrow}
use Rattle.tensor_words.specs.Operators.{IsArrow}
use Rattle.graph_history.specs.declared.event.Act.{Act}
use Rattle.graph_history.specs.declared.event.Act.TheVariants.{Drew, Saw}
use Rattle.graph_history.specs.History.{State, after, state_from, state_of, target_at, HasVertex, HasSome, HasArrow, IsUndrawn, IsWhole}
use Rattle.graph_history.specs.Laws.{Stays}
use Rattle.graph_history.specs.Desks.{by}
use Rattle.graph_history.specs.ArrowRows.{edge_word}
use Rattle.graph_history.proofs.Histories.{stays_after}
use Rattle.graph_history.proofs.ArrowPlaces.{edge_fits}
use Rattle.graph_history.proofs.SoundStates.{IsSound}
use Rattle.graph_rule.specs.Layout.{LeadsTo}
use Rattle.graph_rule.specs.Told.{glanced_acts, drawn_acts}
use Rattle.graph_rule.proofs.Views.{some_stays, whole_stays, state_more}
use Rattle.graph_rule.proofs.EdgeSteps.{edges_drawn, undrawn_word, drawn_word, leads_stays, same_target, target_few}
use Rattle.wide_words.specs.WideHistory.{WideWorldType, flat, WideLegalFrom}
use Rattle.wide_words.proofs.WideSound.{wide_sound}
use Rattle.wide_rule.specs.declared.dues.WideDues.{WideDues}
use Rattle.wide_rule.specs.Layout.{cell_count, word_count, first_index, second_index, first_word, arrow_index, pair_of, cell_on, IsLaid, IsPlaced}
use Rattle.wide_rule.specs.Rule.{WideView, IsKnown, IsRunning}
use Rattle.wide_rule.specs.Values.{WideSeatValue, WideGraphValue, Belongs}
use Rattle.wide_rule.specs.Told.{advanced, Advances, target_in, glanced, drawn}
use Rattle.wide_rule.proofs.Deciding.{path_below}
use Rattle.wide_rule.proofs.Moving.{fits_here, front_stays, OwedElsewhere, Moves, waiting_now, covered_now, owing_now, saw_now, advance, tells}
use Rattle.wide_rule.proofs.CellSteps.{quiet}

-- the words after an arrow was drawn
module _ (w : WideWorldType) (words : List ℕ) (s : State) (laid : IsLaid w words s) (c : ℕ) (a : Arrow) (t : Option ℕ) (below : c < cell_count w) (is : IsArrow (flat w).space a) (free : IsUndrawn s c a) where
  abbrev grown : State
  grown = after s (Drew c a t)

  abbrev new_words : List ℕ
  new_words = set words (arrow_index w c a) (edge_word (Some t))

  other_word : (j : ℕ) → j ≢ arrow_index w c a → slice_index new_words j ≡ slice_index words j
  other_word j ne = get_or-set_other words (arrow_index w c a) j (edge_word (Some t)) 0 ne

  -- the words of cells are others
  pub first_same : (d : ℕ) → d < cell_count w → first_word new_words d ≡ first_word words d
  first_same d low = other_word (first_index d) (λ z. omega arith)

  pub drew_laid : ((d x : ℕ) → HasVertex s d x → d < cell_count w) → IsLaid w new_words grown
  drew_laid within = record {
    count = length-set words (arrow_index w c a) (edge_word (Some t)) ∙ laid.count;
    zero_word = other_word 0 (λ z. omega arith) ∙ laid.zero_word;
    highs = λ d x there. first_same d (within d x there) ∙ laid.highs d x there;
    lows = λ d low. other_word (second_index d) (λ z. omega arith) ∙ laid.lows d low;
    edges = edges_drawn (flat w) (1 + 2 * cell_count w) words s (omega (arith, laid.count)) laid.edges c a t below is free;
  }

module _ {key : WideWorldType} {words : List ℕ} {views : List WideView} (r : IsRunning key words views) (id : ℕ) (v : WideView) (at : get_elem? views id ≡ some v) (live : 0 < v.stake) (c : ℕ) (a : Arrow) (is : IsArrow (flat key).space a) where
  abbrev S : State
  S = state_of r.history

  is_sound : IsSound (flat key) S
  is_sound = wide_sound key r.history r.legal

  -- an arrow that is not drawn is drawn
  module _ (t : Option ℕ) (leads : LeadsTo (flat key) S c a t) (free : IsUndrawn S c a) where
    abbrev then_state : State
    then_state = after S (Drew c a t)

    abbrev words' : List ℕ
    words' = set words (arrow_index key c a) (edge_word (Some t))

    stays : Stays S then_state
    stays = stays_after S (Drew c a t)

    below : c < cell_count key
    below = is_sound.below c leads.0 leads.1

    same_first : (d : ℕ) → d < cell_count key → first_word words' d ≡ first_word words d
    same_first d low = first_same key words S r.laid c a t below is free d low

    covered_then : (e y : ℕ) → HasVertex then_state e y → IsWhole (flat key) then_state e ⊎ (OwedElsewhere r id v at live e ⊎ Contains v.dues.owed e)
    covered_then e y there =
        elim (covered_now r id v at live e y there) [
          | inl done ↦ inl (whole_stays (flat key) S then_state e stays done)
          | inr rest ↦ inr rest
        ]

    placed_then : (d y : ℕ) → HasVertex then_state d y → IsPlaced key words' then_state (pair_of key y) d
    placed_then d y there =
        let p = r.placed d y there in
        let path = path_below key (pair_of key y) in
        record {
          steps = p.steps;
          short = p.short;
          at = p.at;
          taken = λ k less z. p.taken k less (sym (same_first (cell_on key (pair_of key y) k) (path k)) ∙ z);
          filled = λ k less z. p.filled k less (sym (same_first (cell_on key (pair_of key y) k) (path k)) ∙ z);
        }

    pub drew : Moves r id v at live (Drew c a t ∷ []) v.dues words'
    drew = record {
      legal = (record { code = leads.0; there = leads.1; arrow = is; undrawn = free; target = leads.2 }, tt);
      laid = drew_laid key words S r.laid c a t below is free is_sound.below;
      placed = placed_then;
      waiting = λ d low some_word. waiting_now r id v at live d low (λ z. some_word (same_first d low ∙ z));
      saw = λ d n has. let old = saw_now r id v at live d n has in (old.0, same_first d old.0 ∙ old.1, old.2);
      stay = λ d n old. (old.0, same_first d old.0 ∙ old.1, old.2);
      owing = owing_now r id v at live;
      covered = covered_then;
      counted = λ weigh. refl;
    }

-- a cell with a vertex, and where the word of its arrow stands
pub cell_there : (v : WideSeatValue) (g : WideGraphValue) (c : ℕ) → Belongs v g → IsKnown v.view → HasSome (state_of v.view.front) c → c < cell_count g.world
cell_there v g c b known there = subst (λ (w : WideWorldType). c < cell_count w) b.world ((wide_sound v.view.world v.view.front known.legal).below c there.0 there.1)

pub in_words : (v : WideSeatValue) (g : WideGraphValue) (c : ℕ) (a : Arrow) → Belongs v g → IsKnown v.view → HasSome (state_of v.view.front) c → IsArrow (flat v.view.world).space a
    → (i n : ℕ) → i ≡ arrow_index g.world c a → n ≡ word_count g.world → i < n
in_words v g c a b known there is i n at count =
    let fits = edge_fits (flat g.world) (cell_count g.world) c a (cell_there v g c b known there) (subst (λ (w : WideWorldType). IsArrow (flat w).space a) b.world is) in omega (arith, fits, at, count)

-- after a load the word is that of a cell of the table
pub word_few : (v w : WideView) (acts : List Act) (dues : WideDues) (g : WideGraphValue) (c : ℕ) (a : Arrow) → v.world ≡ g.world → Advances v w acts dues → (n : ℕ) → n ≡ edge_word (target_in w c a) → n < cell_count g.world + 2
word_few v w acts dues g c a world step n is =
    let same : w.world ≡ g.world = ap (λ (x : WideView). x.world) step.is ∙ world in
    let few = target_few (flat w.world) (state_of w.front) c a (wide_sound w.world w.front step.known.legal) (omega arith) in
    subst (λ (u : WideWorldType). n < cell_count u + 2) same (subst (λ (k : ℕ). k < cell_count w.world + 2) (sym is) few)

-- what the table asks of a load
module _ (key : WideWorldType) (slots id : ℕ) (me : Me Unit WideView) (live : 0 < me.0.stake) (i c : ℕ) (a : Arrow) (at_index : i ≡ arrow_index me.0.world c a) (there : HasSome (state_of me.0.front) c) (is : IsArrow (flat me.0.world).space a) where
  abbrev any : Step Unit
  any = step 0 0 0 0 none

  abbrev rule : TableState Unit WideView → Type 0
  rule s = IsRunning key s.words s.views

  module _ (s : TableState Unit WideView) (r : IsRunning key s.words s.views) (at : get_elem? s.views id ≡ some me.0) where
    world_is : me.0.world ≡ key
    world_is = (fits_here r id me.0 at live).world_is

    abbrev now : State
    now = state_of r.history

    abbrev found : ℕ
    found = slice_index s.words i

    is_now : IsArrow (flat key).space a
    is_now = subst (λ (w : WideWorldType). IsArrow (flat w).space a) world_is is

    there_now : HasSome now c
    there_now = some_stays (state_of me.0.front) now c (front_stays r id me.0 at live) there

    index_now : i ≡ arrow_index key c a
    index_now = subst (λ (w : WideWorldType). i ≡ arrow_index w c a) world_is at_index

    read : found ≡ edge_word (target_at now.drawn c a)
    read = ap (slice_index s.words) index_now ∙ r.laid.edges c a ((wide_sound key r.history r.legal).below c there_now.0 there_now.1) is_now

    -- a glance leaves the state, and is legal
    glance_still : (n : ℕ) (o : Option (Option ℕ)) → state_from now (by n (glanced_acts c a o)) ≡ now
    glance_still n None = refl
    glance_still n (Some t) = refl

    glance_legal : (n : ℕ) (o : Option (Option ℕ)) → target_at now.drawn c a ≡ o → WideLegalFrom key now (by n (glanced_acts c a o))
    glance_legal n None e = (record { there = there_now; arrow = is_now; undrawn = e }, tt)
    glance_legal n (Some t) e = (e, tt)

    still : (acts : List Act) → state_from now (by me.0.number acts) ≡ now → WideLegalFrom key now (by me.0.number acts) → Moves r id me.0 at live acts me.0.dues (set s.words i found)
    still acts same legal = quiet r id me.0 at live acts me.0.dues (set s.words i found) (set-get_or s.words i 0) same legal refl (λ d e. inr e) (saw_now r id me.0 at live)

  pub glances : Allows rule slots id me i (λ n. n) (glanced c a any me)
  glances s r homes at fit =
      let o = target_at (state_of r.history).drawn c a in
      let acts = glanced_acts c a o in
      let same = glance_still s r at me.0.number o in
      let words' = set s.words i (slice_index s.words i) in
      let m = still s r at acts same (glance_legal s r at me.0.number o refl) in
      let next = advanced me.0 r.history acts me.0.dues in
      let front : target_in next c a ≡ o = ap (λ (z : State). target_at z.drawn c a) (state_more r.history me.0.number acts ∙ same) in (
        next,
        keeps,
        tt,
        advance r id me.0 at live acts me.0.dues words' m,
        (
          refl,
          subst (λ (z : Option (Option ℕ)). Advances me.0 next (glanced_acts c a z) me.0.dues) (sym front) (tells r id me.0 at live acts me.0.dues words' m),
          read s r at ∙ ap edge_word (sym front),
        ),
      )

  -- what it asks of the exchange
  module _ (t : Option ℕ) (leads : LeadsTo (flat me.0.world) (state_of me.0.front) c a t) where
    module _ (s : TableState Unit WideView) (r : IsRunning key s.words s.views) (at : get_elem? s.views id ≡ some me.0) where
      leads_now : LeadsTo (flat key) (state_of r.history) c a t
      leads_now =
          leads_stays (flat key) (state_of me.0.front) (state_of r.history) c a t (front_stays r id me.0 at live)
          (subst (λ (w : WideWorldType). LeadsTo (flat w) (state_of me.0.front) c a t) (world_is s r at) leads)

      abbrev Answer : ℕ → Type 0
      Answer word = (w : WideView) × (b : TableAct Unit) × Valid s.homes me.1 b × IsRunning key (set s.words i word) (set s.views id w) × drawn c a t any me (found s r at) (w, carried_after me.1 b)

      won : found s r at ≡ 0 → Answer (edge_word (Some t))
      won zero_found =
          let m = drew r id me.0 at live c a (is_now s r at) t leads_now (undrawn_word (target_at (state_of r.history).drawn c a) (sym (read s r at) ∙ zero_found)) in
          let words' = set s.words (arrow_index key c a) (edge_word (Some t)) in
          let next = advanced me.0 r.history (Drew c a t ∷ []) me.0.dues in (
            next,
            keeps,
            tt,
            subst (λ (k : ℕ). IsRunning key (set s.words k (edge_word (Some t))) (set s.views id next)) (sym (index_now s r at)) (advance r id me.0 at live (Drew c a t ∷ []) me.0.dues words' m),
            (
              refl,
              subst (λ (k : ℕ). Advances me.0 next (drawn_acts c a t (k == 0)) me.0.dues) (sym zero_found) (tells r id me.0 at live (Drew c a t ∷ []) me.0.dues words' m),
              λ ne. absurd (ne zero_found),
            ),
          )

      lost : found s r at ≢ 0 → Answer (found s r at)
      lost ne =
          let o = drawn_word (target_at (state_of r.history).drawn c a) (λ z. ne (read s r at ∙ z)) in
          let same = same_target (flat key) (state_of r.history) c a o.0 t (wide_sound key r.history r.legal) o.1 leads_now in
          let seen : HasArrow (state_of r.history) c a t = o.1 ∙ ap (λ (z : Option ℕ). Some z) same in
          let acts = Saw c a t ∷ [] in
          let words' = set s.words i (found s r at) in
          let m = still s r at acts refl (seen, tt) in
          let next = advanced me.0 r.history acts me.0.dues in
          let test : (found s r at == 0) ≡ false = ne_eqb (found s r at) 0 ne in (
            next,
            keeps,
            tt,
            advance r id me.0 at live acts me.0.dues words' m,
            (
              refl,
              subst (λ (b : Bool). Advances me.0 next (drawn_acts c a t b) me.0.dues) (sym test) (tells r id me.0 at live acts me.0.dues words' m),
              λ z. read s r at ∙ ap edge_word seen,
            ),
          )

    pub draws : Allows rule slots id me i (λ n. either (eqb n 0) (edge_word (Some t)) n) (drawn c a t any me)
    draws s r homes at fit = exchanged (slice_index s.words i) 0 (edge_word (Some t)) (Answer s r at) (won s r at) (lost s r at)

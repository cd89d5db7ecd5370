-- The steps on arrows: loads, and the exchange that draws an arrow.
use Rattle.std.proofs.Common.{◌≡◌, ◌≢◌, refl, sym, ap, subst, ◌∙◌, ℕ, ◌+◌, ◌*◌, ◌<◌, ◌≤◌, ◌==◌, ◌&&◌, ◌⊎◌, inl, inr, Bool, true, false, eqb, List, [], ◌∷◌, length, set, slice_index, Option, Some, None, Contains, arith}
use Rattle.std.proofs.lemmas.Grind.{common_steps}
use Rattle.std.proofs.lemmas.List.{set-get_or, get_or-set_same, get_or-set_other, length-set}
use mathlib.Core.Option.{some, none}
use lib.ListN.{get_elem?}
use prog.Atomic.{either}
use Rattle.atomic_table.specs.Table.{State as TableState, Me, Step, step, Allows, Act as TableAct, Valid, carried_after, keeps}
use Rattle.atomic_table.proofs.Lists.{exchanged}
use Rattle.crystal_cartan.specs.declared.types.Arrow.{Arrow}
use Rattle.tensor_words.specs.Operators.{IsArrow, op}
use Rattle.tensor_words.specs.Worlds.{WorldType}
use Rattle.graph_history.specs.declared.event.Act.{Act}
use Rattle.graph_history.specs.declared.event.Act.TheVariants.{Drew, Saw}
use Rattle.graph_history.specs.declared.view.Dues.{Dues}
use Rattle.graph_history.specs.Views.{View}
use Rattle.graph_history.specs.History.{State, after, state_from, state_of, target_at, same_arrow, HasVertex, HasSome, HasArrow, IsUndrawn, IsTarget, IsWhole, LegalFrom, caller_of}
use Rattle.graph_history.specs.Laws.{Stays}
use Rattle.graph_history.specs.Desks.{by}
use Rattle.graph_history.specs.ArrowRows.{edge_place, edge_word}
use Rattle.graph_history.proofs.Histories.{one_code, target_at-new, target_at-other, same_edge, own_edge, stays_after}
use Rattle.graph_history.proofs.ArrowPlaces.{same_place, edge_fits}
use Rattle.graph_history.proofs.SoundStates.{IsSound, sound, target_stays}
use Rattle.shared_seats.specs.Seats.{Fits}
use Rattle.graph_rule.specs.Layout.{word_count, IsLaid, LeadsTo, arrow_index}
use Rattle.graph_rule.specs.Rule.{whole, IsKnown, IsRunning}
use Rattle.graph_rule.specs.Values.{SeatValue, GraphValue, Belongs}
use Rattle.graph_rule.specs.Told.{advanced, Advances, target_in, glanced_acts, drawn_acts, glanced, drawn}
use Rattle.graph_rule.proofs.Views.{whole_stays, state_more}
use Rattle.graph_rule.proofs.Advance.{Elsewhere, Moves, fits_here, owes_here, open_now, advance, tells}
use Rattle.graph_rule.proofs.CellSteps.{front_stays, dues_now, still}

-- the word of an arrow, and what is drawn of it
pub undrawn_word : (o : Option (Option ℕ)) → edge_word o ≡ 0 → o ≡ None
undrawn_word None e = refl
undrawn_word (Some None) e = absurd (omega arith)
undrawn_word (Some (Some t)) e = absurd (omega arith)

pub drawn_word : (o : Option (Option ℕ)) → edge_word o ≢ 0 → (t : Option ℕ) × (o ≡ Some t)
drawn_word None ne = absurd (ne refl)
drawn_word (Some t) ne = (t, refl)

-- an operator leads to one target
one_option : (a b : Option ℕ) (x : ℕ) → a ≡ None → a ≡ Some x → ⊥
one_option a b x p q = let e : None ≡ Some x = sym p ∙ q in cc

pub one_target : (w : WorldType) (s : State) (a : Arrow) (y : ℕ) (t u : Option ℕ) → IsSound w s → IsTarget w s a y t → IsTarget w s a y u → t ≡ u
one_target w s a y None None is p q = refl
one_target w s a y None (Some d) is p q = absurd (one_option (op w.space a y) None q.0 p q.1)
one_target w s a y (Some c) None is p q = absurd (one_option (op w.space a y) None p.0 q p.1)
one_target w s a y (Some c) (Some d) is p q =
    let same : p.0 ≡ q.0 = let e : Some p.0 ≡ Some q.0 = sym p.1 ∙ q.1 in cc in
    ap (λ (z : ℕ). Some z) (is.apart c d q.0 (subst (λ (x : ℕ). HasVertex s c x) same p.2) q.2)

pub leads_stays : (w : WorldType) (s t : State) (c : ℕ) (a : Arrow) (to : Option ℕ) → Stays s t → LeadsTo w s c a to → LeadsTo w t c a to
leads_stays w s t c a to stays h = (h.0, stays.vertices c h.0 h.1, target_stays w s t a h.0 to stays h.2)

-- a drawn arrow leads where its operator does
pub same_target : (w : WorldType) (s : State) (c : ℕ) (a : Arrow) (t u : Option ℕ) → IsSound w s → HasArrow s c a t → LeadsTo w s c a u → t ≡ u
same_target w s c a t u is h q =
    let r = is.simple.targets c a t h in
    let same = one_code s c r.0 q.0 r.1 q.1 in
    one_target w s a q.0 t u is (subst (λ (y : ℕ). IsTarget w s a y t) same r.2) q.2

-- the word of a target is that of a cell of the table
pub target_few : (w : WorldType) (s : State) (c : ℕ) (a : Arrow) → IsSound w s → 1 ≤ w.cells → edge_word (target_at s.drawn c a) < w.cells + 2
target_few w s c a is some_cell = by_target (target_at s.drawn c a) refl
  where
    by_target : (o : Option (Option ℕ)) → target_at s.drawn c a ≡ o → edge_word o < w.cells + 2
    by_target None e = omega arith
    by_target (Some None) e = omega arith
    by_target (Some (Some t)) e = let r = is.simple.targets c a (Some t) e in let low = is.below t r.2.0 r.2.2 in omega arith

-- the words of arrows after one was drawn, where they stand from an index on
module _ (w : WorldType) (base : ℕ) (words : List ℕ) (s : State) (long : base + w.cells * (2 * w.space.cartan.rank) ≤ length words)
    (laid : (d : ℕ) (b : Arrow) → d < w.cells → IsArrow w.space b → slice_index words (base + edge_place w.space.cartan.rank d b) ≡ edge_word (target_at s.drawn d b))
    (c : ℕ) (a : Arrow) (t : Option ℕ) (below : c < w.cells) (is : IsArrow w.space a) (free : IsUndrawn s c a) where
  abbrev at : ℕ → Arrow → ℕ
  at e k = base + edge_place w.space.cartan.rank e k

  abbrev drawn_words : List ℕ
  drawn_words = set words (at c a) (edge_word (Some t))

  edge_laid : (d : ℕ) (b : Arrow) → d < w.cells → IsArrow w.space b → (z : Bool) → ((c == d) && same_arrow a b) ≡ z → slice_index drawn_words (at d b) ≡ edge_word (target_at (after s (Drew c a t)).drawn d b)
  edge_laid d b low js true e =
      let same = same_edge c d a b e in
      let room : at c a < length words = let fits = edge_fits w w.cells c a below is in omega arith in
      let there : at d b ≡ at c a = λ i. at (sym same.0 i) (sym same.1 i) in
      ap (slice_index drawn_words) there ∙ get_or-set_same words (at c a) (edge_word (Some t)) 0 room
      ∙ ap edge_word (sym (target_at-new s.drawn (record { cell = c; arrow = a; to = t }) d b e (subst (λ (k : ℕ). target_at s.drawn k b ≡ None) same.0 (subst (λ (k : Arrow). target_at s.drawn c k ≡ None) same.1 free))))
  edge_laid d b low js false e =
      let ne : at d b ≢ at c a = λ z.
      let places : edge_place w.space.cartan.rank c a ≡ edge_place w.space.cartan.rank d b = omega arith in
      let same = same_place w c d a b is js places in
      let own = own_edge c d a b same.0 same.1 in grind (arith, common_steps) in
      get_or-set_other words (at c a) (at d b) (edge_word (Some t)) 0 ne ∙ laid d b low js ∙ ap edge_word (sym (target_at-other s.drawn (record { cell = c; arrow = a; to = t }) d b e))

  pub edges_drawn : (d : ℕ) (b : Arrow) → d < w.cells → IsArrow w.space b → slice_index drawn_words (at d b) ≡ edge_word (target_at (after s (Drew c a t)).drawn d b)
  edges_drawn d b low js = edge_laid d b low js ((c == d) && same_arrow a b) refl

-- the words after an arrow was drawn
module _ (w : WorldType) (words : List ℕ) (s : State) (L : IsLaid w words s) (c : ℕ) (a : Arrow) (t : Option ℕ) (below : c < w.cells) (is : IsArrow w.space a) (free : IsUndrawn s c a) where
  other_word : (j : ℕ) → j ≢ arrow_index w c a → slice_index (set words (arrow_index w c a) (edge_word (Some t))) j ≡ slice_index words j
  other_word j ne = get_or-set_other words (arrow_index w c a) j (edge_word (Some t)) 0 ne

  pub drew_laid : IsLaid w (set words (arrow_index w c a) (edge_word (Some t))) (after s (Drew c a t))
  drew_laid = record {
    count = length-set words (arrow_index w c a) (edge_word (Some t)) ∙ L.count;
    debts = other_word 0 (λ z. omega arith) ∙ L.debts;
    cells = λ d low. other_word (1 + d) (λ z. omega arith) ∙ L.cells d low;
    edges = edges_drawn w (1 + w.cells) words s (omega (arith, L.count)) L.edges c a t below is free;
  }

module _ {key : WorldType} {words : List ℕ} {views : List View} (r : IsRunning key words views) (id : ℕ) (v : View) (at : get_elem? views id ≡ some v) (live : 0 < v.stake) (c : ℕ) (a : Arrow) (is : IsArrow key.space a) where
  abbrev S : State
  S = state_of r.history

  is_sound : IsSound key S
  is_sound = sound key r.history r.legal

  -- an arrow that is not drawn is drawn
  module _ (t : Option ℕ) (leads : LeadsTo key S c a t) (free : IsUndrawn S c a) where
    abbrev then_state : State
    then_state = after S (Drew c a t)

    stays : Stays S then_state
    stays = stays_after S (Drew c a t)

    covered_then : (e y : ℕ) → HasVertex then_state e y → IsWhole key then_state e ⊎ (Elsewhere r id v at live e ⊎ Contains v.dues.unpaid e)
    covered_then e y there =
        elim (open_now r id v at live e y there) [
          | inl done ↦ inl (whole_stays key S then_state e stays done)
          | inr rest ↦ inr rest
        ]

    pub drew : Moves r id v at live (Drew c a t ∷ []) v.dues (set words (arrow_index key c a) (edge_word (Some t)))
    drew =
        let D = dues_now r id v at live in
        record {
          payer = r.payer;
          legal = (record { code = leads.0; there = leads.1; arrow = is; undrawn = free; target = leads.2 }, tt);
          dues = record { owed = D.owed; among = D.among; once = D.once; pledge = D.pledge };
          mine = (owes_here r id v at live).pays;
          rest = λ e there. refl;
          counted = refl;
          laid = drew_laid key words S r.laid c a t (is_sound.below c leads.0 leads.1) is free;
          placed = λ e y there. let p = r.placed e y there in record { steps = p.steps; short = p.short; at = p.at; before = p.before };
          covered = covered_then;
        }

-- a cell with a vertex, and where the word of its arrow stands
pub cell_there : (v : SeatValue) (g : GraphValue) (c : ℕ) → Belongs v g → IsKnown v.view → HasSome (state_of v.view.front) c → c < g.world.cells
cell_there v g c b known there = subst (λ (w : WorldType). c < w.cells) b.world ((sound v.view.world v.view.front known.legal).below c there.0 there.1)

pub in_words : (v : SeatValue) (g : GraphValue) (c : ℕ) (a : Arrow) → Belongs v g → IsKnown v.view → HasSome (state_of v.view.front) c → IsArrow v.view.world.space a
    → (i n : ℕ) → i ≡ arrow_index g.world c a → n ≡ word_count g.world → i < n
in_words v g c a b known there is i n at count =
    let fits = edge_fits g.world g.world.cells c a (cell_there v g c b known there) (subst (λ (w : WorldType). IsArrow w.space a) b.world is) in omega (arith, fits, at, count)

-- after a load the word is that of a cell of the table
pub word_few : (v w : View) (acts : List Act) (d : Dues) (g : GraphValue) (c : ℕ) (a : Arrow) → v.world ≡ g.world → Advances v w acts d → (n : ℕ) → n ≡ edge_word (target_in w c a) → n < g.world.cells + 2
word_few v w acts d g c a world step n is =
    let same : w.world ≡ g.world = ap (λ (x : View). x.world) step.is ∙ world in
    let few = target_few w.world (state_of w.front) c a (sound w.world w.front step.known.legal) step.known.world.some in
    subst (λ (u : WorldType). n < u.cells + 2) same (subst (λ (k : ℕ). k < w.world.cells + 2) (sym is) few)

-- what the table asks of a load
module _ (key : WorldType) (slots id : ℕ) (me : Me Unit View) (live : 0 < me.0.stake) (i c : ℕ) (a : Arrow) (at_index : i ≡ arrow_index me.0.world c a) (there : HasSome (state_of me.0.front) c) (is : IsArrow me.0.world.space a) where
  abbrev any : Step Unit
  any = step 0 0 0 0 none

  abbrev rule : TableState Unit View → Type 0
  rule s = IsRunning key s.words s.views

  module _ (s : TableState Unit View) (r : IsRunning key s.words s.views) (at : get_elem? s.views id ≡ some me.0) where
    abbrev fits : Fits whole caller_of key r.seated.owner r.history id me.0
    fits = fits_here r id me.0 at live

    abbrev now : State
    now = state_of r.history

    abbrev found : ℕ
    found = slice_index s.words i

    abbrev is_now : IsArrow key.space a
    is_now = subst (λ (w : WorldType). IsArrow w.space a) fits.world_is is

    there_now : HasSome now c
    there_now = (there.0, (front_stays r id me.0 at live).vertices c there.0 there.1)

    index_now : i ≡ arrow_index key c a
    index_now = subst (λ (w : WorldType). i ≡ arrow_index w c a) fits.world_is at_index

    read : found ≡ edge_word (target_at now.drawn c a)
    read = ap (slice_index s.words) index_now ∙ r.laid.edges c a ((sound key r.history r.legal).below c there_now.0 there_now.1) is_now

    -- a glance leaves the state, and is legal
    glance_still : (n : ℕ) (o : Option (Option ℕ)) → state_from now (by n (glanced_acts c a o)) ≡ now
    glance_still n None = refl
    glance_still n (Some t) = refl

    glance_legal : (n : ℕ) (o : Option (Option ℕ)) → target_at now.drawn c a ≡ o → LegalFrom key now (by n (glanced_acts c a o))
    glance_legal n None e = (record { there = there_now; arrow = is_now; undrawn = e }, tt)
    glance_legal n (Some t) e = (e, tt)

  pub glances : Allows rule slots id me i (λ n. n) (glanced c a any me)
  glances s r homes at fit =
      let o = target_at (state_of r.history).drawn c a in
      let acts = glanced_acts c a o in
      let same = glance_still s r at me.0.number o in
      let m = still r id me.0 at live acts (set s.words i (slice_index s.words i)) same (set-get_or s.words i 0) (glance_legal s r at me.0.number o refl) in
      let next = advanced me.0 r.history acts me.0.dues in
      let front : target_in next c a ≡ o = ap (λ (z : State). target_at z.drawn c a) (state_more r.history me.0.number acts ∙ same) in (
        next,
        keeps,
        tt,
        advance r id me.0 at live acts me.0.dues (set s.words i (slice_index s.words i)) m,
        (
          refl,
          subst (λ (z : Option (Option ℕ)). Advances me.0 next (glanced_acts c a z) me.0.dues) (sym front) (tells r id me.0 at live acts me.0.dues (set s.words i (slice_index s.words i)) m),
          read s r at ∙ ap edge_word (sym front),
        ),
      )

  -- what it asks of the exchange
  module _ (t : Option ℕ) (leads : LeadsTo me.0.world (state_of me.0.front) c a t) where
    module _ (s : TableState Unit View) (r : IsRunning key s.words s.views) (at : get_elem? s.views id ≡ some me.0) where
      leads_now : LeadsTo key (state_of r.history) c a t
      leads_now =
          leads_stays key (state_of me.0.front) (state_of r.history) c a t (front_stays r id me.0 at live)
          (subst (λ (w : WorldType). LeadsTo w (state_of me.0.front) c a t) (fits s r at).world_is leads)

      abbrev Answer : ℕ → Type 0
      Answer word = (w : View) × (b : TableAct Unit) × Valid s.homes me.1 b × IsRunning key (set s.words i word) (set s.views id w) × drawn c a t any me (found s r at) (w, carried_after me.1 b)

      won : found s r at ≡ 0 → Answer (edge_word (Some t))
      won zero_found =
          let m = drew r id me.0 at live c a (is_now s r at) t leads_now (undrawn_word (target_at (state_of r.history).drawn c a) (sym (read s r at) ∙ zero_found)) in
          let words' = set s.words (arrow_index key c a) (edge_word (Some t)) in
          let next = advanced me.0 r.history (Drew c a t ∷ []) me.0.dues in (
            next,
            keeps,
            tt,
            subst (λ (k : ℕ). IsRunning key (set s.words k (edge_word (Some t))) (set s.views id next)) (sym (index_now s r at)) (advance r id me.0 at live (Drew c a t ∷ []) me.0.dues words' m),
            (
              refl,
              subst (λ (k : ℕ). Advances me.0 next (drawn_acts c a t (k == 0)) me.0.dues) (sym zero_found) (tells r id me.0 at live (Drew c a t ∷ []) me.0.dues words' m),
              λ ne. absurd (ne zero_found),
            ),
          )

      lost : found s r at ≢ 0 → Answer (found s r at)
      lost ne =
          let o = drawn_word (target_at (state_of r.history).drawn c a) (λ z. ne (read s r at ∙ z)) in
          let same = same_target key (state_of r.history) c a o.0 t (sound key r.history r.legal) o.1 leads_now in
          let seen : HasArrow (state_of r.history) c a t = o.1 ∙ ap (λ (z : Option ℕ). Some z) same in
          let acts = Saw c a t ∷ [] in
          let m = still r id me.0 at live acts (set s.words i (found s r at)) refl (set-get_or s.words i 0) (seen, tt) in
          let next = advanced me.0 r.history acts me.0.dues in
          let test : (found s r at == 0) ≡ false = not_zero (found s r at) ne in (
            next,
            keeps,
            tt,
            advance r id me.0 at live acts me.0.dues (set s.words i (found s r at)) m,
            (
              refl,
              subst (λ (b : Bool). Advances me.0 next (drawn_acts c a t b) me.0.dues) (sym test) (tells r id me.0 at live acts me.0.dues (set s.words i (found s r at)) m),
              λ z. read s r at ∙ ap edge_word seen,
            ),
          )
        where
          not_zero : (n : ℕ) → n ≢ 0 → (n == 0) ≡ false
          not_zero n some_one = grind (arith, common_steps)

    pub draws : Allows rule slots id me i (λ n. either (eqb n 0) (edge_word (Some t)) n) (drawn c a t any me)
    draws s r homes at fit = exchanged (slice_index s.words i) 0 (edge_word (Some t)) (Answer s r at) (won s r at) (lost s r at)

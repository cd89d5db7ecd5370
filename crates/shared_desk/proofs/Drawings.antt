-- A drawing on a desk at a seat, from the calls of which it is made.
use Rattle.std.proofs.Common.{◌≡◌, sym, subst, ℕ, ◌+◌, ◌<◌, ◌≤◌, ◌⊎◌, inl, inr, Bool, true, false, List, [], ◌++◌, Some, None, arith}
use Rattle.graph_history.proofs.Drawing.{cell_is}
use Rattle.crystal_cartan.specs.declared.types.Arrow.{Arrow}
use Rattle.tensor_words.specs.Spaces.{size}
use Rattle.tensor_words.specs.Operators.{op}
use Rattle.tensor_words.specs.Worlds.{WorldType}
use Rattle.graph_history.specs.declared.event.Origin.TheVariants.{By}
use Rattle.graph_history.specs.declared.event.Act.{Act}
use Rattle.graph_history.specs.declared.event.Event.{Event}
use Rattle.graph_history.specs.declared.answer.Added.{Added as AddedAnswer}
use Rattle.graph_history.specs.declared.answer.Added.TheVariants.{New, Old, Full}
use Rattle.graph_history.specs.declared.answer.Draw.{Draw}
use Rattle.graph_history.specs.declared.answer.Draw.TheVariants.{Zero as DrawsZero, To as DrawsTo, Full as DrawsFull}
use Rattle.graph_history.specs.History.{state_of, HasVertex, IsLegal}
use Rattle.graph_history.specs.Desks.{EndsWith, Standing, Goes, Does, IsEntry, Draws, saw_zero, drew_zero, entered_drew, entered_saw, full, Drawing}
use Rattle.graph_history.proofs.DeskSteps.{goes_then}
use Rattle.graph_history.proofs.Histories.{stays_append, one_code}
use Rattle.graph_history.proofs.SoundStates.{sound}
use Rattle.graph_rule.specs.Layout.{LeadsTo}
use Rattle.graph_rule.specs.Told.{drawn_acts}
use Rattle.table_calls.specs.Entries.{IsAddedIn}
use Rattle.shared_desk.specs.SharedDesks.{DeskValue, standing_of, Entered}

module _ {Bond : Type 0} where
  pub vertex_goes : (old new : Standing Bond) (places c y : ℕ) (acts : List Act) → Goes old new places acts → HasVertex (state_of old.front) c y → HasVertex (state_of new.front) c y
  vertex_goes old new places c y acts g there = subst (λ (l : List Event). HasVertex (state_of l) c y) (sym g.grows.is) ((stays_append old.front g.grows.more).vertices c y there)

  -- one call after another
  pub does_then : (old mid new : Standing Bond) (p q places : ℕ) (xs ys : List Act) → p + q ≤ places → Goes old mid p xs → Does mid new q ys → Does old new places (xs ++ ys)
  does_then old mid new p q places xs ys within g d = record {
    goes = goes_then old mid new p q places xs ys within g d.goes;
    last = subst (λ (n : ℕ). EndsWith n new.front) g.caller d.last;
  }

  -- a drawing after a call without an act
  pub drawing_after : (old mid new : Standing Bond) (c y : ℕ) (a : Arrow) (answer : Draw) → Goes old mid 0 [] → HasVertex (state_of old.front) c y → Drawing mid new c a answer → Drawing old new c a answer
  drawing_after old mid new c y a answer g there d =
      let same : d.code ≡ y = one_code (state_of mid.front) c d.code y d.there (vertex_goes old mid 0 c y [] g there) in
      record {
        code = d.code;
        there = subst (λ (z : ℕ). HasVertex (state_of old.front) c z) (sym same) there;
        acts = d.acts;
        draws = subst (λ (w : WorldType). Draws w.space c a d.code answer d.acts) g.world d.draws;
        does = does_then old mid new 0 1 1 [] d.acts (omega arith) g d.does;
      }

  -- an arrow to zero
  pub drawing_zero : (old mid new : Standing Bond) (c y : ℕ) (a : Arrow) (b : Bool) → Goes old mid 0 [] → HasVertex (state_of old.front) c y → op old.world.space a y ≡ None
      → Does mid new 0 (drawn_acts c a None b) → Drawing old new c a DrawsZero
  drawing_zero old mid new c y a b g there zero d = record {
    code = y;
    there = there;
    acts = drawn_acts c a None b;
    draws = draws b;
    does = does_then old mid new 0 0 1 [] (drawn_acts c a None b) (omega arith) g d;
  }
    where
      draws : (b : Bool) → Draws old.world.space c a y DrawsZero (drawn_acts c a None b)
      draws true = drew_zero zero
      draws false = saw_zero

-- an arrow to a word that is put in
module _ (old mid : DeskValue) (c x y : ℕ) (a : Arrow) (r : AddedAnswer) (e : Entered old mid x (By c a) r) (there : HasVertex (state_of old.seat.view.front) c y)
    (leads : op old.seat.view.world.space a y ≡ Some x) where
  pub there_in : (t : ℕ) → (r ≡ New t) ⊎ (r ≡ Old t) → HasVertex (state_of mid.seat.view.front) t x
  there_in t (inl is) = subst (λ (s : AddedAnswer). IsAddedIn mid.seat.view.world (state_of mid.seat.view.front) x s) is e.exact
  there_in t (inr is) = subst (λ (s : AddedAnswer). IsAddedIn mid.seat.view.world (state_of mid.seat.view.front) x s) is e.exact

  pub leads_entered : (t : ℕ) → (r ≡ New t) ⊎ (r ≡ Old t) → LeadsTo mid.seat.view.world (state_of mid.seat.view.front) c a (Some t)
  leads_entered t is =
      (y, vertex_goes (standing_of old) (standing_of mid) 1 c y e.acts e.does.goes there, (x, subst (λ (w : WorldType). op w.space a y ≡ Some x) (sym e.does.goes.world) leads, there_in t is))

  pub drawing_entered : (new : DeskValue) (t : ℕ) (b : Bool) → (r ≡ New t) ⊎ (r ≡ Old t) → Does (standing_of mid) (standing_of new) 0 (drawn_acts c a (Some t) b)
      → Drawing (standing_of old) (standing_of new) c a (DrawsTo t)
  drawing_entered new t b is d = record {
    code = y;
    there = there;
    acts = e.acts ++ drawn_acts c a (Some t) b;
    draws = draws b;
    does = does_then (standing_of old) (standing_of mid) (standing_of new) 1 0 1 e.acts (drawn_acts c a (Some t) b) (omega arith) e.does.goes d;
  }
    where
      draws : (b : Bool) → Draws old.seat.view.world.space c a y (DrawsTo t) (e.acts ++ drawn_acts c a (Some t) b)
      draws true = entered_drew t x r e.acts leads (cell_is r t is) e.entry
      draws false = entered_saw t x r e.acts leads (cell_is r t is) e.entry

  pub drawing_full : r ≡ Full → Drawing (standing_of old) (standing_of mid) c a DrawsFull
  drawing_full is = record {
    code = y;
    there = there;
    acts = e.acts;
    draws = full x e.acts leads (subst (λ (s : AddedAnswer). IsEntry x (By c a) s e.acts) is e.entry);
    does = e.does;
  }

-- a vertex has a word of the space
pub word_fits : (w : WorldType) (h : List Event) (c y : ℕ) → IsLegal w h → HasVertex (state_of h) c y → y < size w.space
word_fits w h c y legal there = (sound w h legal).words c y there

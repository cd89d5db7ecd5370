-- What a desk over lists in memory does, by acts of its caller.
use Rattle.std.proofs.Common.{◌≡◌, refl, sym, ap, subst, ◌∙◌, ℕ, ◌+◌, ◌-◌, ◌<◌, ◌≤◌, ◌⊎◌, inl, inr, List, [], ◌∷◌, ◌++◌, append_assoc, Option, Some, None, arith}
use Rattle.crystal_cartan.specs.declared.types.Arrow.{Arrow}
use Rattle.tensor_words.specs.Spaces.{SpaceType}
use Rattle.tensor_words.specs.Operators.{IsArrow, op}
use Rattle.tensor_words.specs.Worlds.{WorldType}
use Rattle.graph_history.specs.declared.event.Origin.{Origin}
use Rattle.graph_history.specs.declared.event.Origin.TheVariants.{By}
use Rattle.graph_history.specs.declared.event.Act.{Act}
use Rattle.graph_history.specs.declared.event.Act.TheVariants.{Added, Met, Spent, Drew, Saw, Owed, Settled}
use Rattle.graph_history.specs.declared.event.Event.{Event}
use Rattle.graph_history.specs.declared.answer.Added.{Added as AddedAnswer}
use Rattle.graph_history.specs.declared.answer.Added.TheVariants.{New, Old, Full}
use Rattle.graph_history.specs.declared.answer.Draw.{Draw}
use Rattle.graph_history.specs.declared.answer.Draw.TheVariants.{Zero as DrawsZero, To as DrawsTo, Full as DrawsFull}
use Rattle.graph_history.specs.History.{State, empty_state, state_of, target_at, HasVertex, HasSome, IsUndrawn, MayDraw, IsLegal}
use Rattle.graph_history.specs.Desks.{by, EndsWith, Goes, Does, IsEntry, cell_of, Draws, Entering, Drawing, met, spent, added, owed_met, owed_spent, saw_zero, saw, drew_zero, entered_drew, entered_saw, full}
use Rattle.graph_history.specs.Plain.{PlainValue, standing_of, with_acts, entry_acts, IsDrawing}
use Rattle.graph_history.proofs.Histories.{legal_rest, state_from-append, stays_append, vertex_at-new}
use Rattle.graph_history.proofs.Growing.{by_append, grew, ends, ends_by, others_after}
use Rattle.graph_history.proofs.Owing.{unpaid_more}

pub goes_by : (old new : PlainValue) (room places : ℕ) (acts : List Act) → new ≡ with_acts (record old { room = room }) acts → room ≤ old.room → old.room ≤ room + places → IsLegal new.world new.front
    → Goes (standing_of old) (standing_of new) places acts
goes_by old new room places acts is least most legal =
    let lawful : IsLegal old.world (old.front ++ by old.caller acts) = subst (λ (v : PlainValue). IsLegal v.world v.front) is legal in
    subst (λ (v : PlainValue). Goes (standing_of old) (standing_of v) places acts) (sym is) (record {
      world = refl;
      caller = refl;
      bond = others_after old.caller old.front acts;
      alone = refl;
      least = least;
      most = most;
      grows = grew old.world old.caller old.front acts lawful;
      unpaid = unpaid_more old.caller old.front acts;
    })

pub did : (old new : PlainValue) (room places : ℕ) (acts : List Act) → new ≡ with_acts (record old { room = room }) acts → room ≤ old.room → old.room ≤ room + places → IsLegal new.world new.front
    → EndsWith old.caller (old.front ++ by old.caller acts) → Does (standing_of old) (standing_of new) places acts
did old new room places acts is least most legal last = record {
  goes = goes_by old new room places acts is least most legal;
  last = subst (λ (v : PlainValue). EndsWith old.caller v.front) (sym is) last;
}

-- one act, without room
pub did_one : (old new : PlainValue) (act : Act) → new ≡ with_acts old (act ∷ []) → IsLegal new.world new.front → Does (standing_of old) (standing_of new) 0 (act ∷ [])
did_one old new act is legal = did old new old.room 0 (act ∷ []) is (omega arith) (omega arith) legal (ends old.caller old.front act)

-- what is put in
pub entry_is : (x : ℕ) (o : Origin) (r : AddedAnswer) → IsEntry x o r (entry_acts x o r)
entry_is x o (New c) = added c
entry_is x o (Old c) = met c
entry_is x o Full = spent

entry_ends : (x : ℕ) (o : Origin) (n : ℕ) (h : List Event) (r : AddedAnswer) (acts : List Act) → IsEntry x o r acts → EndsWith n (h ++ by n acts)
entry_ends x o n h r acts (met c) = ends n h (Met c x)
entry_ends x o n h r acts spent = ends n h (Spent x)
entry_ends x o n h r acts (added c) = ends_by n h (Owed ∷ []) (Added c x o)
entry_ends x o n h r acts (owed_met c) = ends_by n h (Owed ∷ Met c x ∷ []) (Settled None)
entry_ends x o n h r acts owed_spent = ends_by n h (Owed ∷ Spent x ∷ []) (Settled None)

-- the room that a call takes
spent_one : (old mid : PlainValue) → mid ≡ record old { room = old.room - 1 } → 0 < old.room → (old.room - 1 ≤ old.room) × (old.room ≤ old.room - 1 + 1)
spent_one old mid is some = (omega arith, omega arith)

pub entering : (old mid new : PlainValue) (x : ℕ) (o : Origin) (r : AddedAnswer) → mid ≡ record old { room = old.room - 1 } → 0 < old.room → new ≡ with_acts mid (entry_acts x o r)
    → IsLegal new.world new.front → Entering (standing_of old) (standing_of new) x o r
entering old mid new x o r less some is legal =
    let was : new ≡ with_acts (record old { room = old.room - 1 }) (entry_acts x o r) = is ∙ ap (λ (v : PlainValue). with_acts v (entry_acts x o r)) less in
    let room = spent_one old mid less some in
    record {
      acts = entry_acts x o r;
      entry = entry_is x o r;
      does = did old new (old.room - 1) 1 (entry_acts x o r) was room.0 room.1 legal (entry_ends x o old.caller old.front r (entry_acts x o r) (entry_is x o r));
    }

-- what is drawn
draws_end : (s : SpaceType) (c y n : ℕ) (a : Arrow) (h : List Event) (answer : Draw) (acts : List Act) → Draws s c a y answer acts → EndsWith n (h ++ by n acts)
draws_end s c y n a h answer acts saw_zero = ends n h (Saw c a None)
draws_end s c y n a h answer acts (saw t) = ends n h (Saw c a (Some t))
draws_end s c y n a h answer acts (drew_zero e) = ends n h (Drew c a None)
draws_end s c y n a h answer acts (entered_drew t x r entry e at is) = ends_by n h entry (Drew c a (Some t))
draws_end s c y n a h answer acts (entered_saw t x r entry e at is) = ends_by n h entry (Saw c a (Some t))
draws_end s c y n a h answer acts (full x entry e is) = entry_ends x (By c a) n h Full entry is

pub drawing : (old mid new : PlainValue) (c : ℕ) (a : Arrow) (answer : Draw) → mid ≡ record old { room = old.room - 1 } → 0 < old.room → IsDrawing mid new c a answer
    → Drawing (standing_of old) (standing_of new) c a answer
drawing old mid new c a answer less some drawn =
    let d : IsDrawing (record old { room = old.room - 1 }) new c a answer = subst (λ (v : PlainValue). IsDrawing v new c a answer) less drawn in
    let room = spent_one old mid less some in
    record {
      code = d.code;
      there = d.there;
      acts = d.acts;
      draws = d.draws;
      does = did old new (old.room - 1) 1 d.acts d.is room.0 room.1 d.legal (draws_end old.world.space c d.code old.caller a old.front answer d.acts d.draws);
    }

-- an arrow that was drawn already
abbrev pub draw_of : Option ℕ → Draw
draw_of None = DrawsZero
draw_of (Some t) = DrawsTo t

pub drawn_seen : (old new : PlainValue) (c : ℕ) (a : Arrow) (t u : Option ℕ) → new ≡ with_acts old (Saw c a t ∷ []) → t ≡ u → IsLegal new.world new.front
    → HasSome (state_of old.front) c → IsDrawing old new c a (draw_of u)
drawn_seen old new c a t u is same legal (y, there) =
    subst (λ (v : Option ℕ). IsDrawing old new c a (draw_of v)) same (record { code = y; there = there; acts = Saw c a t ∷ []; draws = draws t; is = is; legal = legal })
  where
    draws : (t : Option ℕ) → Draws old.world.space c a y (draw_of t) (Saw c a t ∷ [])
    draws None = saw_zero
    draws (Some d) = saw d

-- an arrow to zero
pub drawn_zero : (old new : PlainValue) (c y : ℕ) (a : Arrow) → new ≡ with_acts old (Drew c a None ∷ []) → IsLegal new.world new.front
    → HasVertex (state_of old.front) c y → op old.world.space a y ≡ None → IsDrawing old new c a DrawsZero
drawn_zero old new c y a is legal there zero = record { code = y; there = there; acts = Drew c a None ∷ []; draws = drew_zero zero; is = is; legal = legal }

-- a full desk
pub drawn_full : (old new : PlainValue) (c x y : ℕ) (a : Arrow) (r : AddedAnswer) → new ≡ with_acts old (entry_acts x (By c a) r) → r ≡ Full → IsLegal new.world new.front
    → HasVertex (state_of old.front) c y → op old.world.space a y ≡ Some x → IsDrawing old new c a DrawsFull
drawn_full old new c x y a r is none legal there leads = record {
  code = y;
  there = there;
  acts = Spent x ∷ [];
  draws = full x (Spent x ∷ []) leads spent;
  is = subst (λ (q : AddedAnswer). new ≡ with_acts old (entry_acts x (By c a) q)) none is;
  legal = legal;
}

-- an arrow to a word that was put in, or met
pub cell_is : (r : AddedAnswer) (t : ℕ) → (r ≡ New t) ⊎ (r ≡ Old t) → cell_of r ≡ Some t
cell_is r t (inl e) = ap cell_of e
cell_is r t (inr e) = ap cell_of e

pub drawn_entered : (old mid new : PlainValue) (c t x y : ℕ) (a : Arrow) (r : AddedAnswer) → mid ≡ with_acts old (entry_acts x (By c a) r) → (r ≡ New t) ⊎ (r ≡ Old t)
    → new ≡ with_acts mid (Drew c a (Some t) ∷ []) → IsLegal new.world new.front → HasVertex (state_of old.front) c y → op old.world.space a y ≡ Some x → IsDrawing old new c a (DrawsTo t)
drawn_entered old mid new c t x y a r is cell was legal there leads = record {
  code = y;
  there = there;
  acts = entry_acts x (By c a) r ++ Drew c a (Some t) ∷ [];
  draws = entered_drew t x r (entry_acts x (By c a) r) leads (cell_is r t cell) (entry_is x (By c a) r);
  is = was ∙ ap (λ (v : PlainValue). with_acts v (Drew c a (Some t) ∷ [])) is ∙ ap (λ (l : List Event). record old { front = l }) joined;
  legal = legal;
}
  where
    joined : (old.front ++ by old.caller (entry_acts x (By c a) r)) ++ by old.caller (Drew c a (Some t) ∷ []) ≡ old.front ++ by old.caller (entry_acts x (By c a) r ++ Drew c a (Some t) ∷ [])
    joined = append_assoc old.front (by old.caller (entry_acts x (By c a) r)) (by old.caller (Drew c a (Some t) ∷ []))
        ∙ ap (λ (l : List Event). old.front ++ l) (by_append old.caller (entry_acts x (By c a) r) (Drew c a (Some t) ∷ []))

-- it may be drawn: what is put in draws none, and is there afterwards
entered_drawn : (h : List Event) (n x : ℕ) (o : Origin) (r : AddedAnswer) → (state_of (h ++ by n (entry_acts x o r))).drawn ≡ (state_of h).drawn
entered_drawn h n x o (New c) = ap (λ (s : State). s.drawn) (state_from-append empty_state h (by n (Owed ∷ Added c x o ∷ [])))
entered_drawn h n x o (Old c) = ap (λ (s : State). s.drawn) (state_from-append empty_state h (by n (Met c x ∷ [])))
entered_drawn h n x o Full = ap (λ (s : State). s.drawn) (state_from-append empty_state h (by n (Spent x ∷ [])))

entered_there : (w : WorldType) (h : List Event) (n x t : ℕ) (o : Origin) (r : AddedAnswer) → cell_of r ≡ Some t → IsLegal w (h ++ by n (entry_acts x o r))
    → HasVertex (state_of (h ++ by n (entry_acts x o r))) t x
unfolding IsLegal
entered_there w h n x t o (New c) cell legal =
    let same : c ≡ t = cc in
    let events : List Event = by n (Owed ∷ Added c x o ∷ []) in
    let may = (legal_rest w empty_state h events legal).1.0 in
    subst (λ (d : ℕ). HasVertex (state_of (h ++ events)) d x) same
    (subst (λ (s : State). HasVertex s c x) (sym (state_from-append empty_state h events)) (vertex_at-new (state_of h).vertices (record { cell = c; code = x }) may.free))
entered_there w h n x t o (Old c) cell legal =
    let same : c ≡ t = cc in
    let events : List Event = by n (Met c x ∷ []) in
    subst (λ (d : ℕ). HasVertex (state_of (h ++ events)) d x) same
    (subst (λ (s : State). HasVertex s c x) (sym (state_from-append empty_state h events)) (legal_rest w empty_state h events legal).0)
entered_there w h n x t o Full cell legal = cc

pub may_entered : (old mid : PlainValue) (c t x y : ℕ) (a : Arrow) (r : AddedAnswer) → mid ≡ with_acts old (entry_acts x (By c a) r) → (r ≡ New t) ⊎ (r ≡ Old t)
    → IsLegal mid.world mid.front → HasVertex (state_of old.front) c y → IsArrow old.world.space a → IsUndrawn (state_of old.front) c a → op old.world.space a y ≡ Some x
    → MayDraw mid.world (state_of mid.front) c a (Some t)
may_entered old mid c t x y a r is cell legal there arrow undrawn leads =
    let events : List Event = by old.caller (entry_acts x (By c a) r) in
    let lawful : IsLegal old.world (old.front ++ events) = subst (λ (v : PlainValue). IsLegal v.world v.front) is legal in
    subst (λ (v : PlainValue). MayDraw v.world (state_of v.front) c a (Some t)) (sym is) (record {
      code = y;
      there = (stays_append old.front events).vertices c y there;
      arrow = arrow;
      undrawn = ap (λ ds. target_at ds c a) (entered_drawn old.front old.caller x (By c a) r) ∙ undrawn;
      target = (x, leads, entered_there old.world old.front old.caller x t (By c a) r (cell_is r t cell) lawful);
    })

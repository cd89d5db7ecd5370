-- The arrows of a cell, drawn one after another.
use Rattle.std.proofs.Common.{◌≡◌, refl, sym, ap, subst, ◌∙◌, ℕ, ◌+◌, ◌*◌, ◌<◌, ◌≤◌, ◌⊎◌, inl, inr, true, false, List, [], ◌∷◌, ◌++◌, append-nil, append_assoc, Option, Some, None, Bool, Result, Ok, Err, arith}
use Rattle.std.specs.Prelude.{All}
use Rattle.std.proofs.lemmas.List.Elements.{All-nil, All-cons, All-append, All-push}
use Rattle.graph_history.proofs.Growing.{added_cells-append}
use Rattle.crystal_cartan.specs.declared.types.Arrow.{Arrow}
use Rattle.tensor_words.specs.Spaces.{SpaceType, size}
use Rattle.tensor_words.specs.Operators.{IsArrow, op}
use Rattle.tensor_words.specs.Worlds.{WorldType}
use Rattle.graph_history.specs.declared.event.Origin.{Origin}
use Rattle.graph_history.specs.declared.event.Origin.TheVariants.{By}
use Rattle.graph_history.specs.declared.event.Act.{Act}
use Rattle.graph_history.specs.declared.event.Act.TheVariants.{Added, Met, Spent, Drew, Saw, Blank, Owed, Settled}
use Rattle.graph_history.specs.declared.event.Event.{Event}
use Rattle.graph_history.specs.declared.answer.Added.{Added as AddedAnswer}
use Rattle.graph_history.specs.declared.answer.Added.TheVariants.{Full}
use Rattle.graph_history.specs.declared.answer.Draw.{Draw}
use Rattle.graph_history.specs.declared.answer.Draw.TheVariants.{Zero as DrawsZero, To as DrawsTo, Full as DrawsFull}
use Rattle.graph_history.specs.declared.answer.Look.{Look}
use Rattle.graph_history.specs.declared.answer.Look.TheVariants.{Blank as LooksBlank, Zero as LooksZero, To as LooksTo}
use Rattle.graph_history.specs.History.{state_of, HasVertex, HasSome, HasArrow, IsDrawn, IsLegal}
use Rattle.graph_history.specs.ArrowRows.{edge_place}
use Rattle.signature_rule.specs.ArrowOrder.{arrow_place}
use Rattle.graph_history.specs.Desks.{Standing, Goes, Does, IsEntry, met, spent, added, owed_met, owed_spent, unpaid_then, unpaid_by, Draws, saw_zero, saw, drew_zero, entered_drew, entered_saw, full, Drawing, look_acts, added_by, added_cells}
use Rattle.graph_history.proofs.ArrowPlaces.{same_place}
use Rattle.graph_history.proofs.DeskSteps.{goes_then, goes_within, unpaid_by-append, entry_unpaid}
use Rattle.graph_history.proofs.Histories.{stays_append, one_code}
use Rattle.graph_history.proofs.OwnActs.{leads_to, draws_leads, saw_drawn}
use Rattle.graph_history.proofs.SoundStates.{sound}
use Rattle.graph_rule.specs.Told.{drawn_acts}
use Rattle.crystal_growers.specs.declared.expansion.Spent.{Spent as SpentAnswer}
use Rattle.crystal_growers.specs.Expansion.{IsGrowthAct, Expanding, taken_back, EndsSpent, ArrowEnded, ArrowDrawn, Expanded}
use Rattle.shared_desk.proofs.SharedSteps.{entry_listed, Quiet, drawn_quiet}
use Rattle.shared_desk.proofs.Drawings.{vertex_goes}

-- what is unpaid after a drawing
tail_unpaid : (x : ℕ) (o : Origin) (r : AddedAnswer) (entry : List Act) (last : Act) (cells : List ℕ) → IsEntry x o r entry → ((l : List ℕ) → unpaid_then l last ≡ l) → added_by last ≡ []
    → unpaid_by cells (entry ++ last ∷ []) ≡ cells ++ added_cells (entry ++ last ∷ [])
tail_unpaid x o r entry last cells is same none =
    unpaid_by-append cells entry (last ∷ []) ∙ same (unpaid_by cells entry) ∙ entry_unpaid cells x o r entry is ∙ entry_listed x o r entry cells is
    ∙ ap (λ (l : List ℕ). cells ++ l) (sym (added_cells-append entry (last ∷ []) ∙ ap (λ (l : List ℕ). added_cells entry ++ (l ++ [])) none ∙ append-nil (added_cells entry)))

draws_unpaid : (s : SpaceType) (c y : ℕ) (a : Arrow) (answer : Draw) (acts : List Act) (cells : List ℕ) → Draws s c a y answer acts → unpaid_by cells acts ≡ cells ++ added_cells acts
draws_unpaid s c y a answer acts cells saw_zero = sym (append-nil cells)
draws_unpaid s c y a answer acts cells (saw t) = sym (append-nil cells)
draws_unpaid s c y a answer acts cells (drew_zero e) = sym (append-nil cells)
draws_unpaid s c y a answer acts cells (entered_drew t x r entry e at is) = tail_unpaid x (By c a) r entry (Drew c a (Some t)) cells is (λ l. refl) refl
draws_unpaid s c y a answer acts cells (entered_saw t x r entry e at is) = tail_unpaid x (By c a) r entry (Saw c a (Some t)) cells is (λ l. refl) refl
draws_unpaid s c y a answer acts cells (full x entry e is) = entry_unpaid cells x (By c a) Full entry is ∙ entry_listed x (By c a) Full entry cells is

-- where what is put in comes from
module _ (s : SpaceType) (c y : ℕ) (a : Arrow) (arrow : IsArrow s a) where
  entry_growth : (x : ℕ) (r : AddedAnswer) (acts : List Act) → op s a y ≡ Some x → IsEntry x (By c a) r acts → All (IsGrowthAct s c y) acts
  entry_growth x r acts leads (met d) = All-cons (IsGrowthAct s c y) (Met d x) [] tt (All-nil (IsGrowthAct s c y))
  entry_growth x r acts leads spent = All-cons (IsGrowthAct s c y) (Spent x) [] (a, arrow, leads) (All-nil (IsGrowthAct s c y))
  entry_growth x r acts leads (added d) =
      All-cons (IsGrowthAct s c y) Owed (Added d x (By c a) ∷ []) tt (All-cons (IsGrowthAct s c y) (Added d x (By c a)) [] (a, refl) (All-nil (IsGrowthAct s c y)))
  entry_growth x r acts leads (owed_met d) =
      All-cons (IsGrowthAct s c y) Owed (Met d x ∷ Settled None ∷ []) tt
      (All-cons (IsGrowthAct s c y) (Met d x) (Settled None ∷ []) tt (All-cons (IsGrowthAct s c y) (Settled None) [] tt (All-nil (IsGrowthAct s c y))))
  entry_growth x r acts leads owed_spent =
      All-cons (IsGrowthAct s c y) Owed (Spent x ∷ Settled None ∷ []) tt
      (All-cons (IsGrowthAct s c y) (Spent x) (Settled None ∷ []) (a, arrow, leads) (All-cons (IsGrowthAct s c y) (Settled None) [] tt (All-nil (IsGrowthAct s c y))))

  draws_growth : (answer : Draw) (acts : List Act) → Draws s c a y answer acts → All (IsGrowthAct s c y) acts
  draws_growth answer acts saw_zero = All-cons (IsGrowthAct s c y) (Saw c a None) [] tt (All-nil (IsGrowthAct s c y))
  draws_growth answer acts (saw t) = All-cons (IsGrowthAct s c y) (Saw c a (Some t)) [] tt (All-nil (IsGrowthAct s c y))
  draws_growth answer acts (drew_zero e) = All-cons (IsGrowthAct s c y) (Drew c a None) [] tt (All-nil (IsGrowthAct s c y))
  draws_growth answer acts (entered_drew t x r entry e at is) = All-push (IsGrowthAct s c y) entry (Drew c a (Some t)) (entry_growth x r entry e is) tt
  draws_growth answer acts (entered_saw t x r entry e at is) = All-push (IsGrowthAct s c y) entry (Saw c a (Some t)) (entry_growth x r entry e is) tt
  draws_growth answer acts (full x entry e is) = entry_growth x Full entry e is

one_growth : (s : SpaceType) (c y : ℕ) (act : Act) → IsGrowthAct s c y act → All (IsGrowthAct s c y) (act ∷ [])
one_growth s c y act growth = All-cons (IsGrowthAct s c y) act [] growth (All-nil (IsGrowthAct s c y))

-- looks, and arrows that are drawn from any cell, are growth
pub looked_growth : (s : SpaceType) (c y : ℕ) (a : Arrow) (answer : Look) → All (IsGrowthAct s c y) (look_acts c a answer)
looked_growth s c y a LooksBlank = one_growth s c y (Blank c a) tt
looked_growth s c y a LooksZero = one_growth s c y (Saw c a None) tt
looked_growth s c y a (LooksTo t) = one_growth s c y (Saw c a (Some t)) tt

pub drawn_growth : (s : SpaceType) (c y d : ℕ) (a : Arrow) (t : Option ℕ) (b : Bool) → All (IsGrowthAct s c y) (drawn_acts d a t b)
drawn_growth s c y d a t true = one_growth s c y (Drew d a t) tt
drawn_growth s c y d a t false = one_growth s c y (Saw d a t) tt

-- where a word found no cell
record FoundNoCell (s : SpaceType) (y : ℕ) (a : Arrow) (acts : List Act) : Type 0 where
  x : ℕ
  leads : op s a y ≡ Some x
  ends : EndsSpent acts x

entry_ends : (c x : ℕ) (a : Arrow) (r : AddedAnswer) (acts : List Act) → r ≡ Full → IsEntry x (By c a) r acts → EndsSpent acts x
entry_ends c x a r acts none (met d) = cc
entry_ends c x a r acts none spent = record { before = []; owed = false; is = refl }
entry_ends c x a r acts none (added d) = cc
entry_ends c x a r acts none (owed_met d) = cc
entry_ends c x a r acts none owed_spent = record { before = Owed ∷ []; owed = true; is = refl }

draws_no_cell : (s : SpaceType) (c y : ℕ) (a : Arrow) (answer : Draw) (acts : List Act) → answer ≡ DrawsFull → Draws s c a y answer acts → FoundNoCell s y a acts
draws_no_cell s c y a answer acts none saw_zero = cc
draws_no_cell s c y a answer acts none (saw t) = cc
draws_no_cell s c y a answer acts none (drew_zero e) = cc
draws_no_cell s c y a answer acts none (entered_drew t x r entry e at is) = cc
draws_no_cell s c y a answer acts none (entered_saw t x r entry e at is) = cc
draws_no_cell s c y a answer acts none (full x entry e is) = record { x = x; leads = e; ends = entry_ends c x a Full entry refl is }

ends_after : (before acts : List Act) (x : ℕ) → EndsSpent acts x → EndsSpent (before ++ acts) x
ends_after before acts x e = record {
  before = before ++ e.before;
  owed = e.owed;
  is = ap (λ (l : List Act). before ++ l) e.is ∙ sym (append_assoc before e.before (Spent x ∷ taken_back e.owed));
}

-- the answer says where the arrow leads
led_somewhere : (answer : Draw) → (answer ≡ DrawsFull → ⊥) → (t : Option ℕ) × (leads_to answer ≡ Some t)
led_somewhere DrawsZero not_full = (None, refl)
led_somewhere (DrawsTo t) not_full = (Some t, refl)
led_somewhere DrawsFull not_full = absurd (not_full refl)

-- an arrow of the type, by the rank that is at hand
pub arrow_fits : (s : SpaceType) (a : Arrow) (rank : ℕ) → rank ≡ s.cartan.rank → 1 ≤ a.index → a.index ≤ rank → IsArrow s a
arrow_fits s a rank is low high = record { index = record { low = low; high = subst (λ (r : ℕ). a.index ≤ r) is high } }

module _ {Bond : Type 0} where
  within_all : (old new : Standing Bond) (c y p places : ℕ) (acts : List Act) → p ≤ places → Expanding old new c y p acts → Expanding old new c y places acts
  within_all old new c y p places acts within r = record {
    goes = goes_within old new p places acts within r.goes;
    growth = r.growth;
    unpaid = r.unpaid;
  }

  -- some drawings after others
  pub expanding_then : (old mid new : Standing Bond) (c y p q : ℕ) (xs ys : List Act) → Expanding old mid c y p xs → Expanding mid new c y q ys → Expanding old new c y (p + q) (xs ++ ys)
  expanding_then old mid new c y p q xs ys e f = record {
    goes = goes_then old mid new p q (p + q) xs ys (omega arith) e.goes f.goes;
    growth = All-append (IsGrowthAct old.world.space c y) xs ys e.growth (subst (λ (w : WorldType). All (IsGrowthAct w.space c y) ys) e.goes.world f.growth);
    unpaid = f.unpaid ∙ ap (λ (l : List ℕ). l ++ added_cells ys) e.unpaid ∙ append_assoc old.unpaid (added_cells xs) (added_cells ys)
        ∙ ap (λ (l : List ℕ). old.unpaid ++ l) (sym (added_cells-append xs ys));
  }

  drawn_still : (old new : Standing Bond) (c y places : ℕ) (a : Arrow) (acts : List Act) → Expanding old new c y places acts → IsDrawn (state_of old.front) c a → IsDrawn (state_of new.front) c a
  drawn_still old new c y places a acts e (t, there) =
      (t, subst (λ (l : List Event). HasArrow (state_of l) c a t) (sym e.goes.grows.is) ((stays_append old.front e.goes.grows.more).arrows c a t there))

  -- what a draw of a desk tells
  module _ (old new : Standing Bond) (c y : ℕ) (a : Arrow) (answer : Draw) (there : HasVertex (state_of old.front) c y) (arrow : IsArrow old.world.space a) (d : Drawing old new c a answer) where
    draws_here : Draws old.world.space c a y answer d.acts
    draws_here = subst (λ (x : ℕ). Draws old.world.space c a x answer d.acts) (one_code (state_of old.front) c d.code y d.there there) d.draws

    run_here : Expanding old new c y 1 d.acts
    run_here = record {
      goes = d.does.goes;
      growth = draws_growth old.world.space c y a arrow answer d.acts draws_here;
      unpaid = d.does.goes.unpaid ∙ draws_unpaid old.world.space c y a answer d.acts old.unpaid draws_here;
    }

    pub arrow_drawn : (answer ≡ DrawsFull → ⊥) → ArrowDrawn old new c y a (Ok tt)
    arrow_drawn not_full =
        let to = led_somewhere answer not_full in
        record {
          acts = d.acts;
          run = run_here;
          ended = (to.0, draws_leads old.world old.caller old.front new.front c y a answer d.acts draws_here d.does.goes.grows to.0 to.1);
        }

    -- no cell was found, seen from the space of the desk now
    module _ (full : answer ≡ DrawsFull) (s : SpaceType) (space : s ≡ new.world.space) where
      space_first : s ≡ old.world.space
      space_first = space ∙ ap (λ (w : WorldType). w.space) d.does.goes.world

      found : FoundNoCell old.world.space y a d.acts
      found = draws_no_cell old.world.space c y a answer d.acts full draws_here

      pub code_in : IsLegal old.world old.front → y < size s
      code_in legal = subst (λ (r : SpaceType). y < size r) (sym space_first) ((sound old.world old.front legal).words c y there)

      pub leads_in : (x : ℕ) × (op s a y ≡ Some x)
      leads_in = subst (λ (r : SpaceType). (x : ℕ) × (op r a y ≡ Some x)) (sym space_first) (found.x, found.leads)

      pub arrow_full : (x : ℕ) → op s a y ≡ Some x → ArrowDrawn old new c y a (Err (record { code = x }))
      arrow_full x leads =
          let here : op old.world.space a y ≡ Some x = subst (λ (r : SpaceType). op r a y ≡ Some x) space_first leads in
          let same : found.x ≡ x = let both : Some found.x ≡ Some x = sym found.leads ∙ here in cc in
          record {
            acts = d.acts;
            run = run_here;
            ended = subst (λ (z : ℕ). EndsSpent d.acts z) same found.ends;
          }

  -- a step that puts nothing in, before an arrow is drawn and after
  pub step_run : (old new : Standing Bond) (c y : ℕ) (acts : List Act) → Does old new 0 acts → All (IsGrowthAct old.world.space c y) acts → Quiet acts → Expanding old new c y 0 acts
  step_run old new c y acts d growth q = record {
    goes = d.goes;
    growth = growth;
    unpaid = d.goes.unpaid ∙ q.unpaid old.unpaid ∙ sym (append-nil old.unpaid) ∙ ap (λ (l : List ℕ). old.unpaid ++ l) (sym q.added);
  }

  pub after_step : (old mid new : Standing Bond) (c y : ℕ) (a : Arrow) (acts : List Act) (answer : Result Unit SpentAnswer) → Expanding old mid c y 0 acts → ArrowDrawn mid new c y a answer
      → ArrowDrawn old new c y a answer
  after_step old mid new c y a acts answer e d = record {
    acts = acts ++ d.acts;
    run = expanding_then old mid new c y 0 1 acts d.acts e d.run;
    ended = ends answer d.ended;
  }
    where
      ends : (r : Result Unit SpentAnswer) → ArrowEnded new.front c a d.acts r → ArrowEnded new.front c a (acts ++ d.acts) r
      ends (Ok done) drawn = drawn
      ends (Err x) end = ends_after acts d.acts x.code end

  pub before_step : (old mid new : Standing Bond) (c y : ℕ) (a : Arrow) (acts : List Act) → ArrowDrawn old mid c y a (Ok tt) → Expanding mid new c y 0 acts → ArrowDrawn old new c y a (Ok tt)
  before_step old mid new c y a acts d e = record {
    acts = d.acts ++ acts;
    run = expanding_then old mid new c y 1 0 d.acts acts d.run e;
    ended = drawn_still mid new c y 0 a acts e d.ended;
  }

  -- an arrow that was seen drawn
  pub arrow_seen : (old new : Standing Bond) (c y : ℕ) (a : Arrow) (t : Option ℕ) → Does old new 0 (Saw c a t ∷ []) → ArrowDrawn old new c y a (Ok tt)
  arrow_seen old new c y a t d = record {
    acts = Saw c a t ∷ [];
    run = within_all old new c y 0 1 (Saw c a t ∷ []) (omega arith) (step_run old new c y (Saw c a t ∷ []) d (drawn_growth old.world.space c y c a t false) (drawn_quiet c a t false));
    ended = (t, saw_drawn old.world old.caller old.front new.front [] c a t [] d.goes.grows);
  }

  -- an expansion on its way: the arrows of so many places are drawn
  pub record IsExpanding (old new : Standing Bond) (c y places : ℕ) : Type 0 where
    pub there : HasVertex (state_of old.front) c y
    pub acts : List Act
    pub run : Expanding old new c y places acts
    pub drawn : (a : Arrow) → IsArrow old.world.space a → arrow_place old.world.space.cartan.rank a < places → IsDrawn (state_of new.front) c a

  pub expands_none : (old new : Standing Bond) (c y : ℕ) → HasSome (state_of old.front) c → Goes old new 0 [] → HasVertex (state_of new.front) c y → IsExpanding old new c y 0
  expands_none old new c y (z, there) g is =
      let same : z ≡ y = one_code (state_of new.front) c z y (vertex_goes old new 0 c z [] g there) is in
      record {
        there = subst (λ (x : ℕ). HasVertex (state_of old.front) c x) same there;
        acts = [];
        run = record { goes = g; growth = All-nil (IsGrowthAct old.world.space c y); unpaid = g.unpaid ∙ sym (append-nil old.unpaid) };
        drawn = λ a arrow below. absurd (omega arith);
      }

  -- a further arrow may be drawn
  module _ (old new : Standing Bond) (c y places : ℕ) (e : IsExpanding old new c y places) where
    pub expanding_there : HasVertex (state_of new.front) c y
    expanding_there = vertex_goes old new places c y e.acts e.run.goes e.there

    pub expanding_arrow : (a : Arrow) → IsArrow old.world.space a → IsArrow new.world.space a
    expanding_arrow a arrow = subst (λ (w : WorldType). IsArrow w.space a) (sym e.run.goes.world) arrow

    pub expanding_room : (rank : ℕ) → rank ≡ old.world.space.cartan.rank → 2 * old.world.space.cartan.rank ≤ old.room → places < 2 * rank → 0 < new.room
    expanding_room rank is room below = let most = e.run.goes.most in omega arith

  -- one arrow more
  module _ (old mid new : Standing Bond) (c y places : ℕ) (a : Arrow) (e : IsExpanding old mid c y places) where
    pub expands_more : ArrowDrawn mid new c y a (Ok tt) → IsArrow old.world.space a → arrow_place old.world.space.cartan.rank a ≡ places → IsExpanding old new c y (places + 1)
    expands_more d arrow place = record {
      there = e.there;
      acts = e.acts ++ d.acts;
      run = expanding_then old mid new c y places 1 e.acts d.acts e.run d.run;
      drawn = λ b is below. by b is (split (arrow_place old.world.space.cartan.rank b) places below);
    }
      where
        split : (m n : ℕ) → m < n + 1 → (m < n) ⊎ (m ≡ n)
        split m n below = grind arith

        by : (b : Arrow) → IsArrow old.world.space b → (arrow_place old.world.space.cartan.rank b < places) ⊎ (arrow_place old.world.space.cartan.rank b ≡ places) → IsDrawn (state_of new.front) c b
        by b is (inl below) = drawn_still mid new c y 1 b d.acts d.run (e.drawn b is below)
        by b is (inr here) =
            let place : edge_place old.world.space.cartan.rank c a ≡ edge_place old.world.space.cartan.rank c b = ap (λ (n : ℕ). c * (2 * old.world.space.cartan.rank) + n) (place ∙ sym here) in
            subst (λ (x : Arrow). IsDrawn (state_of new.front) c x) (same_place old.world c c a b arrow is place).1 d.ended

    pub expands_full : (x : SpentAnswer) → ArrowDrawn mid new c y a (Err x) → places + 1 ≤ 2 * old.world.space.cartan.rank → Expanded old new c (Err x)
    expands_full x d within = record {
      code = y;
      there = e.there;
      acts = e.acts ++ d.acts;
      run = within_all old new c y (places + 1) (2 * old.world.space.cartan.rank) (e.acts ++ d.acts) within (expanding_then old mid new c y places 1 e.acts d.acts e.run d.run);
      ended = ends_after e.acts d.acts x.code d.ended;
    }

  pub expands_all : (old new : Standing Bond) (c y places : ℕ) → IsExpanding old new c y places → places ≡ 2 * old.world.space.cartan.rank → Expanded old new c (Ok tt)
  expands_all old new c y places e all = record {
    code = y;
    there = e.there;
    acts = e.acts;
    run = within_all old new c y places (2 * old.world.space.cartan.rank) e.acts (omega arith) e.run;
    ended = λ a arrow. e.drawn a arrow (below a arrow.index.low arrow.index.high);
  }
    where
      below : (a : Arrow) → 1 ≤ a.index → a.index ≤ old.world.space.cartan.rank → arrow_place old.world.space.cartan.rank a < places
      below a low high = grind arith

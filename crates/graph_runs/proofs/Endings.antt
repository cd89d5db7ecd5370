-- The end of a run.
use Rattle.std.proofs.Common.{◌≡◌, sym, subst, ap, ◌∙◌, arith, ℕ, ◌⊎◌, List, get_or, Option, Some, None, Result, Ok, Err, IfOk, Contains}
use Rattle.std.proofs.lemmas.List.Elements.{Contains-get_or, Contains-append_left, Contains-append_right}
use Rattle.shared_seats.proofs.Fronts.{prefix_on}
use Rattle.tensor_words.specs.Worlds.{WorldType}
use Rattle.canonical_graph.specs.Graphs.{FinishedType}
use Rattle.graph_history.specs.declared.event.Act.{Act}
use Rattle.graph_history.specs.declared.event.Act.TheVariants.{Spent}
use Rattle.graph_history.specs.declared.event.Event.{Event}
use Rattle.graph_history.specs.Views.{View, Kept}
use Rattle.graph_history.specs.History.{state_of, HasVertex, IsClosed, IsLegal, IsWhole}
use Rattle.graph_history.specs.Laws.{HasRoots, IsCodeList}
use Rattle.graph_history.proofs.Histories.{stays_append}
use Rattle.graph_history.proofs.Components.{closed_is_components, closed_fits, spent_outnumbers}
use Rattle.graph_rule.specs.Rule.{whole, IsPrefix, IsKnown, IsComplete}
use Rattle.graph_rule.specs.Values.{GraphValue, SeatValue, ClosedValue, Belongs}
use Rattle.crystal_growers.specs.declared.growth.Grown.{Grown}
use Rattle.crystal_growers.specs.declared.growth.Grown.TheVariants.{Full}
use Rattle.shared_desk.specs.SharedDesks.{Worked}
use Rattle.crystal_growers.specs.Drawing.{CanDraw}
use Rattle.crystal_growers.specs.Growth.{IsGrown, IsCovered}
use Rattle.shared_desk.proofs.SharedSteps.{worked_belongs}
use Rattle.graph_runs.specs.Runs.{HasSpent, EndsRun, closed as is_closed, spent as is_spent}
use Rattle.graph_runs.specs.Ending.{CanEnd, IsOver}

-- a `Spent` stays
pub spent_stays : (f h : List Event) → IsPrefix f h → HasSpent f → HasSpent h
spent_stays f h (rest, is) (n, x, there) =
    (n, x, subst (λ (l : List Event). Contains l (record { caller = n; act = Spent x })) (sym is) (Contains-append_left f rest (record { caller = n; act = Spent x }) there))

-- how it ends

pub ended_spent : (w : WorldType) (h : List Event) → IsLegal w h → HasSpent h → EndsRun w h None
ended_spent w h legal (n, x, there) = is_spent (n, x, there) (spent_outnumbers w h n x legal there)

pub ended_closed : (w : WorldType) (h : List Event) (finished : FinishedType) → IsLegal w h → IsClosed w (state_of h) → HasRoots w (state_of h) → IsCodeList (state_of h) finished.codes
    → finished.space ≡ w.space → EndsRun w h (Some finished)
ended_closed w h finished legal closed roots codes space =
    subst (λ (f : FinishedType). EndsRun w h (Some f)) (λ i. record { space = sym space i; codes = finished.codes })
    (is_closed finished.codes closed codes (closed_is_components w h finished.codes legal closed roots codes) (closed_fits w h legal closed roots))

-- what a growth leaves

pub grown_front : (v u : View) (cells : List ℕ) (growers : ℕ) (answer : Grown) → IsGrown v u cells growers answer → IsPrefix v.front u.front
grown_front v u cells growers answer g = (g.more, g.front)

pub grown_full : (v u : View) (cells : List ℕ) (growers x : ℕ) → IsGrown v u cells growers (Full x) → HasSpent u.front
grown_full v u cells growers x g = (
  g.ended.0,
  x,
  subst (λ (l : List Event). Contains l (record { caller = g.ended.0; act = Spent x })) (sym g.front)
      (Contains-append_right v.front g.more (record { caller = g.ended.0; act = Spent x }) g.ended.2),
)

pub grown_kept : (v u : View) (cells : List ℕ) (growers : ℕ) (answer : Grown) (m : Kept) → IsGrown v u cells growers answer → Contains v.kept m → Contains u.kept m
grown_kept v u cells growers answer m g there = subst (λ (l : List Kept). Contains l m) (sym g.kept) (Contains-append_left v.kept g.news m there)

-- a growth may begin from all that is unpaid

pub can_draw : (g : GraphValue) (s : SeatValue) (cells : List ℕ) → Belongs s g → s.view.dues.pledge ≡ 0 → IsKnown s.view → s.view.dues.unpaid ≡ cells → CanDraw g cells s
can_draw g s cells belongs free known all =
    subst (λ (l : List ℕ). CanDraw g l s) all (record {
      belongs = belongs;
      pledge = free;
      once = known.dues.once;
      there = λ k d below. known.dues.owed (get_or s.view.dues.unpaid k d) (known.dues.among (get_or s.view.dues.unpaid k d) (Contains-get_or s.view.dues.unpaid k d below));
      unpaid = λ c at. at;
    })

-- nobody else is there, so what is owed is whole or unpaid
pub covers : (s : SeatValue) (cells : List ℕ) → s.view.stake ≡ whole → IsKnown s.view → IsComplete s.view → s.view.dues.unpaid ≡ cells → IsCovered s cells
covers s cells alone known complete all = λ c owed.
    let there = known.dues.owed c owed in
    subst (λ (l : List ℕ). IsWhole s.view.world (state_of s.view.front) c ⊎ Contains l c) all ((complete alone).vertices c there.0 there.1)

pub roots_stay : (w : WorldType) (f h : List Event) → IsPrefix f h → HasRoots w (state_of f) → HasRoots w (state_of h)
roots_stay w f h (rest, is) roots = λ x at.
    let there = roots x at in
    (there.0, subst (λ (l : List Event). HasVertex (state_of l) there.0 x) (sym is) ((stays_append f rest).vertices there.0 x there.1))

-- the run is over

module _ (g : GraphValue) (old new : SeatValue) (cells : List ℕ) (growers : ℕ) (answer : Grown) (can : CanEnd g old growers) (table : new.table ≡ old.table)
    (grown : IsGrown old.view new.view cells growers answer) where
  pub grown_belongs : Belongs new g
  grown_belongs = record { table = table ∙ can.belongs.table; world = grown.world ∙ can.belongs.world }

  pub over : (finished : Option FinishedType) → EndsRun g.world new.view.front finished → IsOver g old new finished
  over finished ends = record {
    belongs = grown_belongs;
    number = grown.number;
    stake = grown.stake ∙ can.stake;
    front = grown_front old.view new.view cells growers answer grown;
    kept = λ m there. grown_kept old.view new.view cells growers answer m grown there;
    known = grown.known;
    ends = ends;
  }

legal_here : (g : GraphValue) (s : SeatValue) → Belongs s g → IsKnown s.view → IsLegal g.world s.view.front
legal_here g s belongs known = subst (λ (w : WorldType). IsLegal w s.view.front) belongs.world known.legal

pub over_full : (g : GraphValue) (old new : SeatValue) (cells : List ℕ) (growers x : ℕ) → CanEnd g old growers → new.table ≡ old.table → IsGrown old.view new.view cells growers (Full x)
    → IsOver g old new None
over_full g old new cells growers x can table grown =
    over g old new cells growers (Full x) can table grown None
    (ended_spent g.world new.view.front (legal_here g new (grown_belongs g old new cells growers (Full x) can table grown) grown.known) (grown_full old.view new.view cells growers x grown))

-- the roots were put in before

module _ (g : GraphValue) (old mid : SeatValue) (growers : ℕ) (can : CanEnd g old growers) (acts : List Act) (worked : Worked old mid acts) where
  pub can_still : CanEnd g mid growers
  can_still = record {
    belongs = worked_belongs g old mid acts can.belongs worked;
    some = can.some;
    few = can.few;
    stake = ap (λ (v : View). v.stake) worked.went.is ∙ can.stake;
    numbers = let same : mid.view.left ≡ old.view.left = ap (λ (v : View). v.left) worked.went.is in omega (arith, same, can.numbers);
    pledge = worked.pledge;
  }

  entered_front : IsPrefix old.view.front mid.view.front
  entered_front = (worked.went.more, ap (λ (v : View). v.front) worked.went.is)

  entered_keeps : (m : Kept) → Contains old.view.kept m → Contains mid.view.kept m
  entered_keeps m there = subst (λ (l : List Kept). Contains l m) (sym (ap (λ (v : View). v.kept) worked.went.is)) there

  -- some word found no cell
  pub over_spent : HasSpent mid.view.front → IsOver g old mid None
  over_spent spent = record {
    belongs = can_still.belongs;
    number = ap (λ (v : View). v.number) worked.went.is;
    stake = can_still.stake;
    front = entered_front;
    kept = entered_keeps;
    known = worked.went.known;
    ends = ended_spent g.world mid.view.front (legal_here g mid can_still.belongs worked.went.known) spent;
  }

  -- some word had found no cell before
  pub over_left : HasSpent old.view.front → IsOver g old mid None
  over_left spent = over_spent (spent_stays old.view.front mid.view.front entered_front spent)

  pub over_on : (new : SeatValue) (finished : Option FinishedType) → IsOver g mid new finished → IsOver g old new finished
  over_on new finished o = record {
    belongs = o.belongs;
    number = o.number ∙ ap (λ (v : View). v.number) worked.went.is;
    stake = o.stake;
    front = prefix_on old.view.front mid.view.front new.view.front entered_front o.front;
    kept = λ m there. o.kept m (entered_keeps m there);
    known = o.known;
    ends = o.ends;
  }

-- the same of an answer that may be want of memory
pub over_ok : {E : Type 0} (g : GraphValue) (old mid : SeatValue) (growers : ℕ) (can : CanEnd g old growers) (acts : List Act) (worked : Worked old mid acts) (new : SeatValue)
    (r : Result (Option FinishedType) E) → IfOk r (IsOver g mid new) → IfOk r (IsOver g old new)
over_ok g old mid growers can acts worked new (Ok finished) o = over_on g old mid growers can acts worked new finished o
over_ok g old mid growers can acts worked new (Err e) o = tt

-- the graph was settled, and its vertices were numbered
pub numbered : (g : GraphValue) (s : SeatValue) (settled : ClosedValue) (finished : FinishedType) → Belongs s g → IsKnown s.view → settled.world ≡ g.world → settled.front ≡ s.view.front
    → IsClosed settled.world (state_of settled.front) → HasRoots g.world (state_of s.view.front) → IsCodeList (state_of s.view.front) finished.codes → finished.space ≡ s.view.world.space
    → EndsRun g.world s.view.front (Some finished)
numbered g s settled finished belongs known world front closed roots codes space =
    ended_closed g.world s.view.front finished (legal_here g s belongs known)
    (subst (λ (w : WorldType). IsClosed w (state_of s.view.front)) world (subst (λ (h : List Event). IsClosed settled.world (state_of h)) front closed)) roots codes
    (space ∙ ap (λ (w : WorldType). w.space) belongs.world)

-- What is done in one round: the open vertices are dealt to growers, and what they put in comes back.
use Rattle.std.specs.Prelude.{ℕ, ◌+◌, ◌-◌, ◌*◌, ◌^◌, ◌≤◌, ◌≡◌, ⊤, List, [], ◌∷◌, ◌++◌, length, sum_by, Result, Ok, Err, All}
use Rattle.std.specs.List.{flat_map}
use Rattle.graph_history.specs.declared.event.Event.{Event}
use Rattle.graph_history.specs.History.{state_of}
use Rattle.graph_history.specs.Laws.{HasRoots}
use Rattle.wide_words.specs.WideHistory.{flat}
use Rattle.shared_seats.specs.Seats.{IsPrefix}
use Rattle.wide_rule.specs.Rule.{IsKnown, whole}
use Rattle.wide_rule.specs.Parting.{nothing}
use Rattle.wide_rule.specs.Values.{WideGraphValue, WideSeatValue, Belongs}
use Rattle.wide_growth.specs.declared.drawing.OpenVertex.{OpenVertex}
use Rattle.wide_growth.specs.declared.drawing.Stop.{Stop}
use Rattle.wide_growth.specs.declared.work.Job.{Job}
use Rattle.wide_growth.specs.declared.work.Share.{Share}
use Rattle.wide_growth.specs.Drawing.{IsVertex, cells_in, arrows_of, AreWhole, IsReady, GoesOn, IsStop}

-- the most vertices of a round
abbrev pub most_open : ℕ
most_open = 2 ^ 20

-- a seat can draw these vertices
pub record CanDraw (g : WideGraphValue) (s : WideSeatValue) (waiting : List OpenVertex) : Type 0 where
  pub ready : IsReady g s
  pub vertices : All (IsVertex g.world s.view.front) waiting
  pub few : length waiting ≤ most_open

-- a seat drew these vertices: it put in others, and so many lowering arrows lead to a word
pub record HasDrawn (old now : WideSeatValue) (waiting before after : List OpenVertex) (arrows : ℕ) : Type 0 where
  pub goes : GoesOn old now before after
  pub drawn : AreWhole old.view.world now.view.front waiting
  pub counted : arrows ≡ sum_by (arrows_of old.view.world.space) waiting

-- a grower's job: a seat that was just split off with a stake of 1, from this front, and a part of the open vertices
pub record IsJob (g : WideGraphValue) (front : List Event) (j : Job) : Type 0 where
  pub can : CanDraw g j.seat j.waiting.items
  pub front_is : j.seat.view.front ≡ front
  pub stake : j.seat.view.stake ≡ 1
  pub dues : j.seat.view.dues ≡ nothing

abbrev pub waiting_of : Job → List OpenVertex
waiting_of j = j.waiting.items

-- what became of a job
abbrev pub IsDone : Job → Result Share Stop → Type 0
IsDone j (Ok s) = HasDrawn j.seat s.seat j.waiting.items [] s.added.items s.arrows
IsDone j (Err stop) = IsStop j.seat.view.world stop

-- so many seats were split off, each with a part of the open vertices
pub record IsDealt (g : WideGraphValue) (old now : WideSeatValue) (waiting : List OpenVertex) (growers : ℕ) (jobs : List Job) : Type 0 where
  pub table : now.table ≡ old.table
  pub view : now.view ≡ record old.view { next = old.view.next + growers; left = old.view.left - growers; stake = old.view.stake - growers }
  pub known : IsKnown now.view
  pub many : length jobs ≡ growers
  pub parts : flat_map waiting_of jobs ≡ waiting
  pub made : All (IsJob g old.view.front) jobs

-- a seat with a stake of 1 that drew a part, from this front, and owes just what it put in
pub record IsBack (g : WideGraphValue) (front : List Event) (part : List OpenVertex) (s : Share) : Type 0 where
  pub ready : IsReady g s.seat
  pub stake : s.seat.view.stake ≡ 1
  pub known : IsKnown s.seat.view
  pub begins : IsPrefix front s.seat.view.front
  pub owed : s.seat.view.dues.owed ≡ cells_in s.added.items
  pub vertices : All (IsVertex g.world s.seat.view.front) s.added.items
  pub drawn : AreWhole g.world s.seat.view.front part
  pub counted : s.arrows ≡ sum_by (arrows_of g.world.space) part

-- what the growers give back, one after another, of these open vertices
abbrev pub AreBack : WideGraphValue → List Event → List OpenVertex → List (Result Share Stop) → Type 0
AreBack g front waiting [] = waiting ≡ []
AreBack g front waiting (Ok s ∷ rest) =
    (part : List OpenVertex) × (later : List OpenVertex) × (waiting ≡ part ++ later) × IsBack g front part s × AreBack g front later rest
AreBack g front waiting (Err stop ∷ rest) = IsStop g.world stop

-- a round: the seat has its stake again, all open vertices are drawn, and it owes besides what it owed just what was put
-- in. At most so many numbers were used
pub record IsRound (g : WideGraphValue) (old now : WideSeatValue) (waiting added : List OpenVertex) (used arrows : ℕ) : Type 0 where
  pub ready : IsReady g now
  pub stake : now.view.stake ≡ old.view.stake
  pub left : old.view.left ≤ now.view.left + used
  pub known : IsKnown now.view
  pub front : IsPrefix old.view.front now.view.front
  pub owed : now.view.dues.owed ≡ old.view.dues.owed ++ cells_in added
  pub vertices : All (IsVertex g.world now.view.front) added
  pub drawn : AreWhole g.world now.view.front waiting
  pub counted : arrows ≡ sum_by (arrows_of g.world.space) waiting

-- after some rounds: the seat owes the cells of the vertices that are drawn, and then those of the open ones, all roots are
-- among them, and each round used at most 16 numbers
pub record IsGrowing (g : WideGraphValue) (now : WideSeatValue) (waiting : List OpenVertex) (vertices arrows : ℕ) : Type 0 where
  pub done : List OpenVertex
  pub ready : IsReady g now
  pub stake : now.view.stake ≡ whole
  pub known : IsKnown now.view
  pub left : 2 ^ 32 ≤ now.view.left + 16 * vertices + 1
  pub owed : now.view.dues.owed ≡ cells_in (done ++ waiting)
  pub vertices_are : All (IsVertex g.world now.view.front) (done ++ waiting)
  pub drawn : AreWhole g.world now.view.front done
  pub many : vertices ≡ length done
  pub few : vertices ≤ g.world.capacity
  pub counted : arrows ≡ sum_by (arrows_of g.world.space) done
  pub roots : HasRoots (flat g.world) (state_of now.view.front)

-- the seats of so many growers with a stake of 1 were taken in: all that they were dealt is drawn, and the seat owes besides
-- just what they put in
pub record IsGathered (g : WideGraphValue) (old now : WideSeatValue) (waiting : List OpenVertex) (growers : ℕ) (added : List OpenVertex) (arrows : ℕ) : Type 0 where
  pub ready : IsReady g now
  pub stake : now.view.stake ≡ old.view.stake + growers
  pub left : now.view.left ≡ old.view.left
  pub known : IsKnown now.view
  pub front : IsPrefix old.view.front now.view.front
  pub owed : now.view.dues.owed ≡ old.view.dues.owed ++ cells_in added
  pub vertices : All (IsVertex g.world now.view.front) added
  pub drawn : AreWhole g.world now.view.front waiting
  pub counted : arrows ≡ sum_by (arrows_of g.world.space) waiting

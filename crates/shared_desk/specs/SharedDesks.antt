-- A desk at one seat of the shared graph.
use Rattle.std.specs.Prelude.{ℕ, ◌+◌, ◌≤◌, ◌≡◌, nat_eq, List, ◌++◌, length}
use Rattle.graph_history.specs.declared.event.Act.{Act}
use Rattle.graph_history.specs.declared.event.Origin.{Origin}
use Rattle.graph_history.specs.declared.answer.Added.{Added as AddedAnswer}
use Rattle.graph_history.specs.History.{state_of}
use Rattle.graph_history.specs.Desks.{Standing, Does, IsEntry, added_cells}
use Rattle.graph_rule.specs.Rule.{whole}
use Rattle.graph_rule.specs.Told.{Went}
use Rattle.graph_rule.specs.Values.{GraphValue, SeatValue, Belongs}
use Rattle.table_calls.specs.Entries.{IsAddedIn}

-- a desk at a seat: the seat as it was handed in, the seat now, the room, and the cells that were added
pub record DeskValue : Type 0 where
  pub first : SeatValue
  pub seat : SeatValue
  pub room : ℕ
  pub added : List ℕ

-- what every desk shows: the seat's world, number, front and unpaid cells; its bond is the seat as it was handed in, and
-- it is alone where its seat has the whole stake
abbrev pub standing_of : DeskValue → Standing SeatValue
standing_of d = record {
  world = d.seat.view.world;
  caller = d.seat.view.number;
  front = d.seat.view.front;
  room = d.room;
  bond = d.first;
  unpaid = d.seat.view.dues.unpaid;
  alone = nat_eq d.seat.view.stake whole;
}

-- the seat went on by these acts since it was handed in. So but for its calls, front and dues it is the seat that it
-- was; it owes besides just the cells that the acts put in
pub record Worked (v w : SeatValue) (acts : List Act) : Type 0 where
  pub table : w.table ≡ v.table
  pub went : Went v.view w.view acts w.view.dues
  pub owed : w.view.dues.owed ≡ v.view.dues.owed ++ added_cells acts
  pub pledge : w.view.dues.pledge ≡ 0

-- what the type keeps: the list is, in order, the cells that the seat's own acts put in since, and has room for those
-- that may come
pub record IsShared (g : GraphValue) (first now : SeatValue) (room : ℕ) (listed : List ℕ) (spaces : ℕ) : Type 0 where
  pub belongs : Belongs now g
  pub acts : List Act
  pub worked : Worked first now acts
  pub list : listed ≡ added_cells acts
  pub spare : length listed + room ≤ spaces

-- an entry was made, and its answer is that of the state
pub record Entered (old new : DeskValue) (x : ℕ) (o : Origin) (answer : AddedAnswer) : Type 0 where
  pub acts : List Act
  pub entry : IsEntry x o answer acts
  pub does : Does (standing_of old) (standing_of new) 1 acts
  pub exact : IsAddedIn new.seat.view.world (state_of new.seat.view.front) x answer

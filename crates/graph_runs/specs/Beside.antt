-- Growth beside sessions.
use Rattle.std.specs.Prelude.{ℕ, ◌*◌, ◌^◌, ◌<◌, ◌≤◌, ◌≡◌, List, [], length, slice_index_or, Result, Some, IfOk, All}
use Rattle.crystal_streams.specs.declared.faults.NoMemory.{NoMemory}
use Rattle.graph_rule.specs.Values.{GraphValue, SeatValue, Belongs}
use Rattle.crystal_growers.specs.Drawing.{CanDraw}
use Rattle.crystal_growers.specs.Growth.{IsCovered, IsGrown}
use Rattle.job_text.specs.declared.commands.Command.{Command}
use Rattle.session_desk.specs.Replies.{replies}
use Rattle.session_desk.specs.Sessions.{IsAsked}
use Rattle.session_desk.specs.Texts.{IsPrintable}
use Rattle.graph_runs.specs.declared.beside.GrownSeat.{GrownSeat}
use Rattle.graph_runs.specs.declared.seats.Session.{Session}
use Rattle.graph_runs.specs.declared.serve.Served.{Served}
use Rattle.graph_runs.specs.Serving.{IsServed}

-- a growth may begin at this seat with these cells
pub record CanGrow (g : GraphValue) (s : SeatValue) (cells : List ℕ) (growers : ℕ) : Type 0 where
  pub can : CanDraw g cells s
  pub some : 1 ≤ growers
  pub few : growers ≤ 16
  pub stake : growers < s.view.stake
  pub numbers : 2 ^ 21 * growers ≤ s.view.left
  pub owed : IsCovered s cells

-- a growth from these cells is over
pub record IsGrowthOver (g : GraphValue) (s : SeatValue) (cells : List ℕ) (growers : ℕ) (growth : GrownSeat) : Type 0 where
  pub belongs : Belongs growth.seat g
  pub grown : IsGrown s.view growth.seat.view cells growers growth.grown

-- a session may begin: what its script asks may be asked
pub record CanSit (g : GraphValue) (scripts : List (List Command)) (one : Session) : Type 0 where
  pub belongs : Belongs one.seat g
  pub pledge : one.seat.view.dues.pledge ≡ 0
  pub place : one.place < length scripts
  pub few : length scripts ≤ 16
  pub asked : All (IsAsked g.world) (slice_index_or scripts one.place [])

-- its script ran, unless there was no memory
abbrev pub HasSat : GraphValue → List (List Command) → Session → Result Served NoMemory → Type 0
HasSat g scripts one back =
    IfOk back (λ served. IsServed g.world (slice_index_or scripts one.place []) one.seat served.seat served.cells.items served.replies)

-- what the session with this number brings back: its seat has just the calls from which its replies are told
pub record IsBack (g : GraphValue) (script : List Command) (n : ℕ) (served : Served) : Type 0 where
  pub belongs : Belongs served.seat g
  pub number : served.seat.view.number ≡ n
  pub stake : served.seat.view.stake ≡ 1
  pub pledge : served.seat.view.dues.pledge ≡ 0
  pub unpaid : served.seat.view.dues.unpaid ≡ served.cells.items
  pub replied : replies g.world.space script served.seat.view.calls ≡ Some served.replies
  pub printable : All (IsPrintable g.world.space) served.replies

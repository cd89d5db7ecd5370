-- What is drawn at a seat.
use Rattle.std.specs.Prelude.{ℕ, ◌≡◌, ◌⊎◌, nat_eq, List, Option, All, Contains}
use Rattle.std.specs.List.{IsDistinct}
use Rattle.graph_history.specs.declared.event.Act.{Act}
use Rattle.graph_history.specs.declared.event.Act.TheVariants.{Spent}
use Rattle.graph_history.specs.History.{state_of, HasSome, IsWhole}
use Rattle.graph_history.specs.Desks.{added_cells}
use Rattle.graph_rule.specs.Values.{GraphValue, SeatValue, Belongs}
use Rattle.crystal_growers.specs.declared.expansion.drawing.Drawn.{Drawn}
use Rattle.shared_desk.specs.SharedDesks.{Worked}
use Rattle.crystal_growers.specs.GrowthEvents.{Grew}
use Rattle.crystal_growers.specs.Expansion.{AreWhole, HasEnded, rest_of, IsPaid}

-- the cells can be drawn at the seat: each is a vertex, stands in the list once, and is unpaid here
pub record CanDraw (g : GraphValue) (cells : List ℕ) (s : SeatValue) : Type 0 where
  pub belongs : Belongs s g
  pub pledge : s.view.dues.pledge ≡ 0
  pub once : IsDistinct nat_eq cells
  pub there : All (HasSome (state_of s.view.front)) cells
  pub unpaid : (c : ℕ) → Contains cells c → Contains s.view.dues.unpaid c

-- the seat drew these cells and paid for them; or some word found no cell
pub record HasDrawn (cells : List ℕ) (old now : SeatValue) (added : List ℕ) (full : Option ℕ) : Type 0 where
  pub acts : List Act
  pub worked : Worked old now acts
  pub listed : added ≡ added_cells acts
  pub grew : Grew old.view.world old.view.number old.view.front now.view.front
  pub paid : IsPaid (rest_of cells old.view.dues.unpaid) added now.view.dues.unpaid full
  pub ended : HasEnded (AreWhole old.view.world now.view.front cells) (λ x. Contains acts (Spent x)) full

abbrev pub IsSeatDrawn : List ℕ → SeatValue → Drawn → Type 0
IsSeatDrawn cells seat d = HasDrawn cells seat d.seat d.added.items d.full

-- the cells wait at the seat: they can be drawn, and are all that is unpaid here; all else that it owes is whole
pub record IsWaiting (g : GraphValue) (cells : List ℕ) (s : SeatValue) : Type 0 where
  pub can : CanDraw g cells s
  pub no_other : (c : ℕ) → Contains s.view.dues.unpaid c → Contains cells c
  pub covered : (c : ℕ) → Contains s.view.dues.owed c → IsWhole g.world (state_of s.view.front) c ⊎ Contains cells c

-- the word with this code found no cell under the number of a seat that had not called before
abbrev pub SeatHasSpent : SeatValue → ℕ → Type 0
SeatHasSpent s x = Contains s.view.front (record { caller = s.view.number; act = Spent x })

-- how it ended: these cells wait; or some word found no cell
abbrev pub IsEnded : GraphValue → List ℕ → SeatValue → Option ℕ → Type 0
IsEnded g cells s = HasEnded (IsWaiting g cells s) (SeatHasSpent s)

-- What a growth tells.
use Rattle.std.specs.Prelude.{ℕ, ◌+◌, ◌-◌, ◌*◌, ◌^◌, ◌<◌, ◌≤◌, ◌≡◌, ◌⊎◌, nat_eq, List, [], ◌++◌, length, Option, slice_index_or, Contains}
use Rattle.std.specs.List.{IsDistinct}
use Rattle.graph_history.specs.declared.event.Act.TheVariants.{Spent}
use Rattle.graph_history.specs.declared.event.Event.{Event}
use Rattle.graph_history.specs.Views.{Kept}
use Rattle.graph_history.specs.Views.{View}
use Rattle.graph_history.specs.History.{state_of, IsWhole}
use Rattle.graph_rule.specs.Rule.{IsPrefix, IsUnused, IsKnown}
use Rattle.graph_rule.specs.Parting.{left_dues}
use Rattle.graph_rule.specs.Values.{GraphValue, SeatValue}
use Rattle.crystal_growers.specs.declared.growth.Grown.{Grown}
use Rattle.crystal_growers.specs.declared.growth.Grown.TheVariants.{Closed, Full}
use Rattle.crystal_growers.specs.declared.grower.Start.{Start}
use Rattle.crystal_growers.specs.GrowthEvents.{GrowsFrom}
use Rattle.crystal_growers.specs.Expansion.{HasEnded, rest_of}
use Rattle.crystal_growers.specs.Slips.{HasCell}
use Rattle.crystal_growers.specs.Gathering.{numbers, AreStarts, worth, starting_slips, HasTakenIn, HasNumber, IsNumberOf, IsPaidUp, IsSpentBy}

-- the callers of a growth: the seat, and the numbers that it had to give before and keeps now
abbrev pub IsGrower : View → View → ℕ → Type 0
IsGrower v w n = (n ≡ v.number) ⊎ (IsUnused v n × HasNumber w.kept n)

-- so many numbers, no two the same, each of which the seat had to give before and keeps now
pub record AreKept (v : View) (news : List Kept) (count : ℕ) : Type 0 where
  pub given : List ℕ
  pub many : length given ≡ count
  pub once : IsDistinct nat_eq given
  pub each : (n : ℕ) → Contains given n → IsUnused v n × HasNumber news n

-- closed: all arrows of the given cells and of the owed ones are drawn, and what is unpaid now is just what was unpaid
-- before and was not given. Full: one of the growth's events is `Spent` of this code
abbrev pub GrowthEnded : View → View → List ℕ → List Event → Grown → Type 0
GrowthEnded v w cells more Closed =
    ((c : ℕ) → Contains cells c ⊎ Contains w.dues.owed c → IsWhole v.world (state_of w.front) c)
    × ((c : ℕ) → Contains w.dues.unpaid c → Contains v.dues.unpaid c × (Contains cells c → ⊥))
    × ((c : ℕ) → Contains v.dues.unpaid c → (Contains cells c → ⊥) → Contains w.dues.unpaid c)
GrowthEnded v w cells more (Full x) = (n : ℕ) × IsGrower v w n × Contains more (record { caller = n; act = Spent x })

-- what a growth tells of the seat's view before and after. All stake came back, so that the seats of all growers did. What
-- is kept besides are numbers that the seat had to give, each with its calls, and numbers under which nobody called. The
-- numbers of all growers are among them, unless there was no cell to grow from. What it owed it owes still
pub record IsGrown (v w : View) (cells : List ℕ) (growers : ℕ) (answer : Grown) : Type 0 where
  pub world : w.world ≡ v.world
  pub number : w.number ≡ v.number
  pub stake : w.stake ≡ v.stake
  pub falls : w.left ≤ v.left
  pub left : v.left ≤ w.left + 2 ^ 21 * growers
  pub unused : w.next + w.left ≡ v.next + v.left
  pub pledge : w.dues.pledge ≡ 0
  pub known : IsKnown w
  pub more : List Event
  pub front : w.front ≡ v.front ++ more
  pub news : List Kept
  pub kept : w.kept ≡ v.kept ++ news
  pub fresh : (m : Kept) → Contains news m → IsUnused v m.number ⊎ (m.calls ≡ [])
  pub workers : 0 < length cells → AreKept v news growers
  pub owed : (c : ℕ) → Contains v.dues.owed c → Contains w.dues.owed c
  pub growth : (n : ℕ) → IsGrower v w n → GrowsFrom v.world n (state_of v.front) more
  pub ended : GrowthEnded v w cells more answer

-- after want of memory: part of the stake may be lost. The numbers that the seat kept are kept, with their calls
pub record IsLost (v w : SeatValue) : Type 0 where
  pub table : w.table ≡ v.table
  pub world : w.view.world ≡ v.view.world
  pub number : w.view.number ≡ v.view.number
  pub kept : (m : Kept) → Contains v.view.kept m → Contains w.view.kept m
  pub front : IsPrefix v.view.front w.view.front
  pub pledge : w.view.dues.pledge ≡ v.view.dues.pledge

-- each cell that the seat owes is given to the growth, or whole
abbrev pub IsCovered : SeatValue → List ℕ → Type 0
IsCovered s cells = (c : ℕ) → Contains s.view.dues.owed c → IsWhole s.view.world (state_of s.view.front) c ⊎ Contains cells c

-- how a growth begins: part of the cells is loaded for its growers, who are ready to start
pub record HasBegun {J : Type 0} (g : GraphValue) (old now : SeatValue) (cells rest : List ℕ) (growers : ℕ) (starts : List (Start J)) : Type 0 where
  pub loaded : List ℕ
  pub cells_are : cells ≡ loaded ++ rest
  pub parcels : ℕ
  pub table : now.table ≡ old.table
  pub view : now.view ≡ record old.view { next = old.view.next + (parcels + growers * numbers); left = old.view.left - (parcels + growers * numbers); stake = now.view.stake; dues = left_dues loaded old.view.dues }
  pub few : parcels ≤ 2 ^ 16
  pub stake : now.view.stake + worth starts ≡ old.view.stake
  pub has : (c : ℕ) → Contains loaded c → HasCell (starting_slips starts) c
  pub count : length starts ≡ growers
  pub starts_are : AreStarts g old.view.front starts
  pub fresh : (n : ℕ) → IsNumberOf starts n → IsUnused old.view n
  pub numbered : (k : ℕ) (d : Start J) → k < length starts → (slice_index_or starts k d).seat.view.number ≡ old.view.next + parcels + k * numbers

-- the numbers of the growers, and the next one, under which the rest is drawn
abbrev pub IsNumberIn : {J : Type 0} → List (Start J) → View → ℕ → Type 0
IsNumberIn starts v n = IsNumberOf starts n ⊎ (n ≡ v.next)

-- how it ends: all growers came back, and the rest is drawn, unless some word found no cell
pub record HasClosed {J : Type 0} (g : GraphValue) (old now : SeatValue) (starts : List (Start J)) (rest : List ℕ) (full : Option ℕ) : Type 0 where
  pub news : List Kept
  pub grown : HasTakenIn g (IsNumberIn starts old.view) old now 1 news
  pub keeps : (n : ℕ) → IsNumberOf starts n → HasNumber news n
  pub stake : now.view.stake ≡ old.view.stake + worth starts
  pub owes : (c : ℕ) → Contains old.view.dues.owed c ⊎ HasCell (starting_slips starts) c → Contains now.view.dues.owed c
  pub ended : HasEnded (IsPaidUp g (rest_of rest old.view.dues.owed) (rest_of rest old.view.dues.unpaid) now) (IsSpentBy (IsNumberIn starts old.view) news now.view.front) full

-- How growers begin at seats of their own, and how they come back.
use Rattle.std.specs.Prelude.{ℕ, ◌+◌, ◌-◌, ◌*◌, ◌^◌, ◌<◌, ◌≡◌, ◌⊎◌, List, [], ◌∷◌, ◌++◌, length, Option, Some, None, slice_index_or, Contains}
use Rattle.graph_history.specs.declared.event.Act.TheVariants.{Spent}
use Rattle.graph_history.specs.declared.event.Event.{Event}
use Rattle.graph_history.specs.Views.{Kept}
use Rattle.graph_history.specs.History.{state_of, IsWhole, calls}
use Rattle.graph_history.specs.Notes.{no_dues}
use Rattle.graph_rule.specs.Rule.{IsPrefix, IsUnused, IsKnown}
use Rattle.graph_rule.specs.Parting.{left_dues}
use Rattle.graph_rule.specs.Values.{GraphValue, SeatValue, Belongs}
use Rattle.parcel_deques.specs.declared.parcel.Slip.{Slip}
use Rattle.parcel_deques.specs.Lists.{SameItems}
use Rattle.parcel_deques.specs.Parcels.{AllOwned}
use Rattle.parcel_deques.specs.Ends.{DequeId}
use Rattle.parcel_deques.specs.Benches.{BenchValue, HasAll}
use Rattle.parcel_deques.specs.Making.{IsApart, AreApart}
use Rattle.parcel_deques.specs.Gather.{all_taken}
use Rattle.crystal_growers.specs.declared.grower.Start.{Start}
use Rattle.crystal_growers.specs.declared.grower.Shift.{Shift}
use Rattle.crystal_growers.specs.GrowthEvents.{Grew}
use Rattle.crystal_growers.specs.Expansion.{HasEnded, rest_of}
use Rattle.crystal_growers.specs.Slips.{slip_stakes, HasCell, all_pushed}
use Rattle.crystal_growers.specs.Grower.{HasWorked, IsShift}
use Rattle.tensor_words.specs.Worlds.{WorldType}

-- growers begin

-- benches of one call, in order of number, that took nothing yet
pub record AreIdle (bs : List BenchValue) : Type 0 where
  pub apart : AreApart bs
  pub taken : (k : ℕ) (d : BenchValue) → k < length bs → (slice_index_or bs k d).taken ≡ []

-- the first of the cells were loaded on so many benches, each parcel with one number and one stake; the others are left
pub record HasLoaded (old now : SeatValue) (cells rest : List ℕ) (count : ℕ) (benches : List BenchValue) : Type 0 where
  pub loaded : List ℕ
  pub cells_are : cells ≡ loaded ++ rest
  pub parcels : ℕ
  pub table : now.table ≡ old.table
  pub view : now.view ≡ record old.view { next = old.view.next + parcels; left = old.view.left - parcels; stake = now.view.stake; dues = left_dues loaded old.view.dues }
  pub counted : now.view.stake + parcels ≡ old.view.stake
  pub stake : now.view.stake + slip_stakes (all_pushed benches) ≡ old.view.stake
  pub enough : count < now.view.stake
  pub many : length benches ≡ count
  pub has : (c : ℕ) → Contains loaded c → HasCell (all_pushed benches) c
  pub idle : AreIdle benches

-- the numbers of a grower: its own, and one for each parcel that it loads
abbrev pub numbers : ℕ
numbers = 2 ^ 20 + 1

-- a grower at place k begins at a seat that was split off and did nothing yet, from this front
pub record IsStart {J : Type 0} (g : GraphValue) (front : List Event) (call : List DequeId) (k : ℕ) (s : Start J) : Type 0 where
  pub belongs : Belongs s.seat g
  pub calls_are : s.seat.view.calls ≡ []
  pub kept : s.seat.view.kept ≡ []
  pub front_is : s.seat.view.front ≡ front
  pub dues : s.seat.view.dues ≡ no_dues
  pub known : IsKnown s.seat.view
  pub apart : IsApart call k s.bench
  pub taken : s.bench.taken ≡ []

pub record AreStarts {J : Type 0} (g : GraphValue) (front : List Event) (starts : List (Start J)) : Type 0 where
  pub call : List DequeId
  pub long : length call ≡ length starts
  pub each : (k : ℕ) (d : Start J) → k < length starts → IsStart g front call k (slice_index_or starts k d)

-- the stakes that growers begin with, at their seats and in their parcels; and their slips
abbrev pub worth : {J : Type 0} → List (Start J) → ℕ
worth [] = 0
worth (s ∷ ss) = s.seat.view.stake + slip_stakes s.bench.pushed + worth ss

abbrev pub starting_slips : {J : Type 0} → List (Start J) → List Slip
starting_slips [] = []
starting_slips (s ∷ ss) = s.bench.pushed ++ starting_slips ss

-- the seats of growers were split off
pub record HasStarted {J : Type 0} (g : GraphValue) (old now : SeatValue) (benches : List BenchValue) (starts : List (Start J)) : Type 0 where
  pub table : now.table ≡ old.table
  pub view : now.view ≡ record old.view { next = old.view.next + length benches * numbers; left = old.view.left - length benches * numbers; stake = now.view.stake }
  pub stake : now.view.stake + worth starts ≡ old.view.stake + slip_stakes (all_pushed benches)
  pub has : (c : ℕ) → HasCell (all_pushed benches) c → HasCell (starting_slips starts) c
  pub count : length starts ≡ length benches
  pub starts_are : AreStarts g old.view.front starts
  pub fresh : (s : Start J) → Contains starts s → IsUnused old.view s.seat.view.number
  pub numbered : (k : ℕ) (d : Start J) → k < length starts → (slice_index_or starts k d).seat.view.number ≡ old.view.next + k * numbers

-- growers come back

-- a number that was taken in: its caller had not called before, grew, and did nothing else
pub record CameBack (w : WorldType) (first now : List Event) (m : Kept) : Type 0 where
  pub none : calls first m.number ≡ []
  pub back : List Event
  pub grew : Grew w m.number first back
  pub all : calls back m.number ≡ m.calls
  pub ends : IsPrefix back now

-- a seat gave numbers away, and took in growers: each number that it keeps besides is one of these, or nobody called under
-- it
pub record HasTakenIn (g : GraphValue) (these : ℕ → Type 0) (old now : SeatValue) (used : ℕ) (news : List Kept) : Type 0 where
  pub belongs : Belongs now g
  pub is : now.view ≡ record old.view { kept = old.view.kept ++ news; next = old.view.next + used; left = old.view.left - used; stake = now.view.stake; front = now.view.front; olds = now.view.olds; dues = now.view.dues }
  pub known : IsKnown now.view
  pub pledge : now.view.dues.pledge ≡ 0
  pub front : IsPrefix old.view.front now.view.front
  pub came : (m : Kept) → Contains news m → CameBack g.world old.view.front now.view.front m
  pub within : (m : Kept) → Contains news m → these m.number ⊎ (m.calls ≡ [])

-- the word with this code found no cell under one of these numbers, which is kept now
abbrev pub IsSpentBy : (ℕ → Type 0) → List Kept → List Event → ℕ → Type 0
IsSpentBy these news h x = (m : Kept) × Contains news m × these m.number × Contains h (record { caller = m.number; act = Spent x })

-- the number is among those that are kept
abbrev pub HasNumber : List Kept → ℕ → Type 0
HasNumber news n = (m : Kept) × Contains news m × (m.number ≡ n)

-- the number of one of the growers that began
abbrev pub IsNumberOf : {J : Type 0} → List (Start J) → ℕ → Type 0
IsNumberOf {J} starts n = (s : Start J) × Contains starts s × (s.seat.view.number ≡ n)

-- where all was drawn: what is unpaid now, and that all is whole that was not owed before
abbrev pub IsPaidUp : GraphValue → List ℕ → List ℕ → SeatValue → Type 0
IsPaidUp g owed unpaid now =
    (now.view.dues.unpaid ≡ unpaid) × ((c : ℕ) → Contains now.view.dues.owed c → Contains owed c ⊎ IsWhole g.world (state_of now.view.front) c)

-- the shifts of growers, of which each began so
abbrev pub AreShifts : {J : Type 0} → GraphValue → List (Start J) → List (Shift J) → Type 0
AreShifts {J} g starts shifts =
    (length shifts ≡ length starts) × ((k : ℕ) (d : Start J) (e : Shift J) → k < length starts →
    IsShift g (slice_index_or starts k d).seat (slice_index_or shifts k e).seat (slice_index_or starts k d).bench (slice_index_or shifts k e).bench (slice_index_or shifts k e).ending)

-- the seats of all growers were taken in, and their numbers are kept. With the stakes of the slips that were pushed but not taken all stake is back
pub record HasCollected {J : Type 0} (g : GraphValue) (old now : SeatValue) (starts : List (Start J)) (benches : List BenchValue) (full : Option ℕ) : Type 0 where
  pub news : List Kept
  pub grown : HasTakenIn g (IsNumberOf starts) old now 0 news
  pub keeps : (n : ℕ) → IsNumberOf starts n → HasNumber news n
  pub apart : AreApart benches
  pub live : length starts < now.view.stake
  pub stake : now.view.stake + slip_stakes (all_pushed benches) ≡ old.view.stake + worth starts + slip_stakes (all_taken benches)
  pub has : (c : ℕ) → HasCell (starting_slips starts) c → HasCell (all_pushed benches) c
  pub owes : (c : ℕ) → Contains old.view.dues.owed c ⊎ HasCell (all_taken benches) c → Contains now.view.dues.owed c
  pub ended : HasEnded (IsPaidUp g old.view.dues.owed old.view.dues.unpaid now) (IsSpentBy (IsNumberOf starts) news now.view.front) full

-- each bench holds all shares of its deque, and notes just the slips taken from it
abbrev pub AreHome : List BenchValue → Type 0
AreHome benches = (k : ℕ) (d : BenchValue) → k < length benches → HasAll (slice_index_or benches k d) × AllOwned (slice_index_or benches k d).number (slice_index_or benches k d).taken

-- what was left in all deques was taken by a seat: so all is taken that was pushed
pub record HasCleared (g : GraphValue) (old now : SeatValue) (benches : List BenchValue) : Type 0 where
  pub got : List Slip
  pub worked : HasWorked g old now got []
  pub all : SameItems (all_taken benches ++ got) (all_pushed benches)

abbrev pub RestEndedWith : GraphValue → SeatValue → SeatValue → List ℕ → List Kept → Option ℕ → Option ℕ → Type 0
RestEndedWith g old now rest news None =
    HasEnded (IsPaidUp g (rest_of rest old.view.dues.owed) (rest_of rest old.view.dues.unpaid) now) (IsSpentBy (λ n. n ≡ old.view.next) news now.view.front)
RestEndedWith g old now rest news (Some x) = λ full. full ≡ Some x

-- the cells that were left, and what was left in the deques, were drawn at a seat that was handed the next number and
-- joined again; or some word had found no cell before, and the seats were joined alone
pub record HasDrawnRest (g : GraphValue) (old now : SeatValue) (benches : List BenchValue) (rest : List ℕ) (before full : Option ℕ) : Type 0 where
  pub news : List Kept
  pub grown : HasTakenIn g (λ n. n ≡ old.view.next) old now 1 news
  pub got : List Slip
  pub all : SameItems (all_taken benches ++ got) (all_pushed benches)
  pub stake : now.view.stake ≡ old.view.stake + slip_stakes got
  pub owes : (c : ℕ) → Contains old.view.dues.owed c ⊎ HasCell got c → Contains now.view.dues.owed c
  pub ended : RestEndedWith g old now rest news before full

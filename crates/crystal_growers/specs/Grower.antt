-- What a grower does with parcels, how it ends, and what comes of its work.
use Rattle.std.specs.Prelude.{ℕ, ◌+◌, ◌≡◌, ◌⊎◌, List, [], ◌∷◌, ◌++◌, Option, Some, None, Contains, ⊤, Result, Ok, Err}
use Rattle.graph_history.specs.Views.{Kept}
use Rattle.graph_rule.specs.Rule.{IsKnown}
use Rattle.graph_rule.specs.Values.{GraphValue, SeatValue, Belongs}
use Rattle.parcel_deques.specs.declared.parcel.Slip.{Slip}
use Rattle.parcel_deques.specs.Lists.{SameItems}
use Rattle.parcel_deques.specs.Parcels.{owned_by}
use Rattle.parcel_deques.specs.Benches.{BenchValue, HasAll, FoundOwnEmpty}
use Rattle.crystal_growers.specs.declared.expansion.drawing.Drawn.{Drawn}
use Rattle.crystal_growers.specs.GrowthEvents.{Grew}
use Rattle.crystal_growers.specs.Slips.{slip_stakes, HasCell}
use Rattle.crystal_growers.specs.Drawing.{IsEnded, IsWaiting, SeatHasSpent}
use Rattle.crystal_growers.specs.declared.grower.Ending.{Ending}
use Rattle.crystal_growers.specs.declared.grower.Ending.TheVariants.{Done, Spent, NoMemory}
use Rattle.crystal_growers.specs.declared.grower.Ready.{Ready}
use Rattle.crystal_growers.specs.declared.grower.Stopped.{Stopped}

-- a seat went on as a grower's. What it did is growth. It took in the seats of the slips `got`, under whose numbers nobody
-- called, and gave stake away with the slips `given`
pub record HasActed (g : GraphValue) (old now : SeatValue) (got given : List Slip) : Type 0 where
  pub belongs : Belongs now g
  pub number : now.view.number ≡ old.view.number
  pub pledge : now.view.dues.pledge ≡ 0
  pub known : IsKnown now.view
  pub grew : Grew g.world old.view.number old.view.front now.view.front
  pub news : List Kept
  pub kept : now.view.kept ≡ old.view.kept ++ news
  pub quiet : (m : Kept) → Contains news m → m.calls ≡ []
  pub stake : now.view.stake + slip_stakes given ≡ old.view.stake + slip_stakes got

-- besides, it owes all that it owed, and the cells of the slips that it took
pub record HasWorked (g : GraphValue) (old now : SeatValue) (got given : List Slip) : Type 0 where
  pub acted : HasActed g old now got given
  pub owes : (c : ℕ) → Contains old.view.dues.owed c ⊎ HasCell got c → Contains now.view.dues.owed c

-- a seat drew the cells that waited, and all that came of them; or some word found no cell
abbrev pub IsDrawnOut : GraphValue → SeatValue → Drawn → Type 0
IsDrawnOut g seat d = HasWorked g seat d.seat [] [] × IsEnded g [] d.seat d.full

-- slips were pushed on a bench
abbrev pub HasPushed : BenchValue → BenchValue → List Slip → Type 0
HasPushed old new given = new ≡ record old { pushed = old.pushed ++ given }

-- a seat offered cells on its bench: it owes all that it owed but for some of these
pub record HasOffered (g : GraphValue) (old now : SeatValue) (bench next : BenchValue) (cells : List ℕ) : Type 0 where
  pub given : List Slip
  pub pushed : HasPushed bench next given
  pub acted : HasActed g old now [] given
  pub owes : (c : ℕ) → Contains old.view.dues.owed c → Contains now.view.dues.owed c ⊎ Contains cells c

-- a seat ran a parcel, whose slip is x, with its bench
pub record HasRun (g : GraphValue) (old now : SeatValue) (bench next : BenchValue) (x : Slip) : Type 0 where
  pub given : List Slip
  pub pushed : HasPushed bench next given
  pub worked : HasWorked g old now (x ∷ []) given

-- what became of a bench: it took slips, and pushed some
pub record IsBenchServed (old new : BenchValue) (got given : List Slip) : Type 0 where
  pub is : new ≡ record old { pushed = old.pushed ++ given; taken = new.taken; known = new.known }
  pub taken : SameItems new.taken (old.taken ++ got)

-- a grower's seat and bench, from the beginning of its work on
pub record IsWorking (g : GraphValue) (old now : SeatValue) (bench next : BenchValue) : Type 0 where
  pub got : List Slip
  pub given : List Slip
  pub worked : HasWorked g old now got given
  pub served : IsBenchServed bench next got given

-- the parcels that are left in a bench's deque were taken, and their seats joined
pub record IsSweeping (g : GraphValue) (old now : SeatValue) (bench next : BenchValue) (got : List Slip) : Type 0 where
  pub worked : HasWorked g old now got []
  pub served : IsBenchServed bench next got []
  pub owned : SameItems (owned_by bench.number next.taken) (owned_by bench.number bench.taken ++ got)

-- cells were drawn unless some word had found no cell before: then that code is the answer
abbrev pub GoesOn : Option ℕ → GraphValue → SeatValue → Option ℕ → Type 0
GoesOn None g s full = IsEnded g [] s full
GoesOn (Some x) g s full = full ≡ Some x

-- all that was left is taken: the deque was empty. Where the bench holds the shares of all it has taken what it pushed
pub record HasSwept (g : GraphValue) (old now : SeatValue) (bench next : BenchValue) : Type 0 where
  pub got : List Slip
  pub sweeping : IsSweeping g old now bench next got
  pub empty : FoundOwnEmpty next
  pub all : HasAll bench → SameItems (owned_by bench.number bench.taken ++ got) bench.pushed

-- how growers end

-- why a grower stopped: it found its own deque empty, and nothing waits; a word found no cell; or for want of memory, of which
-- nothing is said
abbrev pub HasStopped : GraphValue → SeatValue → BenchValue → Ending → Type 0
HasStopped g s b Done = IsWaiting g [] s × FoundOwnEmpty b
HasStopped g s b (Spent x) = SeatHasSpent s x
HasStopped g s b NoMemory = ⊤

-- why a grower stops in a parcel
abbrev pub HasFailed : SeatValue → Ending → Type 0
HasFailed s Done = ⊥
HasFailed s (Spent x) = SeatHasSpent s x
HasFailed s NoMemory = ⊤

-- a parcel was run, and nothing waits; or the grower stops
abbrev pub IsParcelRun : GraphValue → SeatValue → BenchValue → BenchValue → Slip → Result Ready Stopped → Type 0
IsParcelRun g s b next x (Ok r) = HasRun g s r.seat b next x × IsWaiting g [] r.seat
IsParcelRun g s b next x (Err r) = HasRun g s r.seat b next x × HasFailed r.seat r.ending

-- the cells that were added at the seat were offered, and what came back is drawn; or the grower stops
abbrev pub IsOffered : GraphValue → SeatValue → List ℕ → BenchValue → BenchValue → Result Ready Stopped → Type 0
IsOffered g s added b next (Ok r) = HasOffered g s r.seat b next added × IsWaiting g [] r.seat
IsOffered g s added b next (Err r) = HasOffered g s r.seat b next added × HasFailed r.seat r.ending

-- what came back is drawn; or the grower stops
abbrev pub IsDrawnBack : GraphValue → SeatValue → Result Ready Stopped → Type 0
IsDrawnBack g s (Ok r) = HasWorked g s r.seat [] [] × IsWaiting g [] r.seat
IsDrawnBack g s (Err r) = HasWorked g s r.seat [] [] × HasFailed r.seat r.ending

-- how a grower ended that found no parcel any more, or no cell for a word
abbrev pub IsEndingOf : Option ℕ → Ending → Type 0
IsEndingOf None e = e ≡ Done
IsEndingOf (Some x) e = e ≡ Spent x

-- the code of a word that found no cell, after a further grower ended
abbrev pub IsFullAfter : Option ℕ → Ending → Option ℕ → Type 0
IsFullAfter full Done next = next ≡ full
IsFullAfter full (Spent x) next = next ≡ Some x
IsFullAfter full NoMemory next = ⊥

-- what comes of a grower that begins with this seat and this bench
pub record IsShift (g : GraphValue) (old now : SeatValue) (bench next : BenchValue) (ending : Ending) : Type 0 where
  pub working : IsWorking g old now bench next
  pub stopped : HasStopped g now next ending

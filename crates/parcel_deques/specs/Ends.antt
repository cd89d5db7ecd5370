-- A thief's end of a deque.
use Rattle.std.specs.Prelude.{ℕ, ◌<◌, ◌≤◌, ◌≡◌, ◌≢◌, ◌⊎◌, List, [], ◌∷◌, length, Option, Some, None, slice_get}
use Rattle.std.specs.declared.alloc.Global.{Global}
use Rattle.atomic_blocks.specs.Lent.{RowsId}
use Rattle.crossbeam_deque.specs.Handles.{Pass, view, taken, IsPassOf}
use Rattle.parcel_deques.specs.declared.parcel.Slip.{Slip}
use Rattle.parcel_deques.specs.declared.rule.Hand.{Hand}
use Rattle.parcel_deques.specs.Parcels.{AllOwned}
use Rattle.parcel_deques.specs.Rule.{took, WasEmpty}

-- which deque it is
abbrev pub DequeId : Type 0
DequeId = RowsId × Global

-- what is known of a deque: which it is, what its pass knows, if there is one, and how many slips are known to have left
pub record EndValue : Type 0 where
  pub deque : DequeId
  pub pass : Option Hand
  pub known : ℕ

abbrev pub hand_of : Option (Pass Slip Hand Global) → Option Hand
hand_of None = None
hand_of (Some p) = Some (view p)

abbrev pub known_left : Option (Pass Slip Hand Global) → ℕ
known_left None = 0
known_left (Some p) = taken p

-- a pass is one of this deque, and has a share
abbrev pub IsPassHere : DequeId → Option (Pass Slip Hand Global) → Type 0
IsPassHere deque pass = (p : Pass Slip Hand Global) → pass ≡ Some p → IsPassOf deque p × (0 < (view p).share)

-- a try found nothing: more slips are known to have left, or the deque was empty
pub record Tried (old new : EndValue) : Type 0 where
  pub deque : new.deque ≡ old.deque
  pub pass : new.pass ≡ old.pass
  pub cause : (v : Hand) → old.pass ≡ Some v → (old.known < new.known) ⊎ WasEmpty v

-- a slip was taken, and noted
pub record Took (old new : EndValue) (x : Slip) : Type 0 where
  pub deque : new.deque ≡ old.deque
  pub hand : Hand
  pub was : old.pass ≡ Some hand
  pub now : new.pass ≡ Some (took hand (x ∷ []))
  pub owned : AllOwned hand.deque (x ∷ [])

-- the lists are as long, and this holds at each place
pub record Each (F : ℕ → EndValue → EndValue → Type 0) (old new : List EndValue) : Type 0 where
  pub many : length new ≡ length old
  pub each : (k : ℕ) (d e : EndValue) → slice_get old k ≡ Some d → slice_get new k ≡ Some e → F k d e

-- the ends from one place up to another were tried, and the rest is as it was
abbrev pub IsBetween : ℕ → ℕ → ℕ → EndValue → EndValue → Type 0
IsBetween from to k d e = (from ≤ k → k < to → Tried d e) × ((k < from) ⊎ (to ≤ k) → e ≡ d)

-- all ends were tried but for the own one
abbrev pub IsTriedAround : ℕ → ℕ → EndValue → EndValue → Type 0
IsTriedAround n k d e = (k ≢ n → Tried d e) × (k ≡ n → e ≡ d)

-- an end is of the same deque, with the same pass
pub record SameEnd (d e : EndValue) : Type 0 where
  pub deque : e.deque ≡ d.deque
  pub pass : e.pass ≡ d.pass

-- a slip was taken by the end at one place
pub record Stole (old new : List EndValue) (x : Slip) : Type 0 where
  pub place : ℕ
  pub end : EndValue
  pub next : EndValue
  pub was : slice_get old place ≡ Some end
  pub now : slice_get new place ≡ Some next
  pub took : Took end next x
  pub others : Each (λ k d e. k ≢ place → SameEnd d e) old new

abbrev pub StoleBetween : ℕ → ℕ → List EndValue → List EndValue → Slip → Type 0
StoleBetween from to old new x = (s : Stole old new x) × (from ≤ s.place) × (s.place < to)

abbrev pub StoleAround : ℕ → List EndValue → List EndValue → Slip → Type 0
StoleAround n old new x = (s : Stole old new x) × (s.place ≢ n)

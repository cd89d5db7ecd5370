-- The benches of one call when all passes are home.
use Rattle.std.specs.Prelude.{ℕ, ◌<◌, ◌≡◌, List, [], ◌∷◌, ◌++◌, length, slice_index_or}
use Rattle.parcel_deques.specs.declared.parcel.Slip.{Slip}
use Rattle.parcel_deques.specs.Lists.{SameItems}
use Rattle.parcel_deques.specs.Parcels.{AllOwned}
use Rattle.parcel_deques.specs.Benches.{BenchValue, HasAll}

-- the slips that the benches have taken, bench by bench
abbrev pub all_taken : List BenchValue → List Slip
all_taken [] = []
all_taken (b ∷ bs) = b.taken ++ all_taken bs

-- what came of a bench: it has all shares of its own deque, and notes the slips that were taken from it alone
pub record IsGathered (old now : BenchValue) : Type 0 where
  pub number : now.number ≡ old.number
  pub call : now.call ≡ old.call
  pub pushed : now.pushed ≡ old.pushed
  pub capacity : now.capacity ≡ old.capacity
  pub home : HasAll now
  pub taken : AllOwned now.number now.taken

-- what came of all benches: together they note the slips that they noted before, each as often
pub record AreGathered (old now : List BenchValue) : Type 0 where
  pub many : length now ≡ length old
  pub each : (k : ℕ) (d e : BenchValue) → k < length old → IsGathered (slice_index_or old k d) (slice_index_or now k e)
  pub slips : SameItems (all_taken now) (all_taken old)

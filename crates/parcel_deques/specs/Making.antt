-- The benches of one call, as they are made.
use Rattle.std.specs.Prelude.{ℕ, ◌<◌, ◌≤◌, ◌≡◌, List, [], ◌∷◌, length, slice_index_or}
use Rattle.parcel_deques.specs.Ends.{DequeId}
use Rattle.parcel_deques.specs.Benches.{BenchValue}

-- the bench at place k of a call with these deques, before any pass is brought home
pub record IsApart (call : List DequeId) (k : ℕ) (b : BenchValue) : Type 0 where
  pub number : b.number ≡ k
  pub call_is : b.call ≡ call
  pub home : b.home ≡ k ∷ []
  pub away : b.away ≡ []

-- all benches of one call, in order of number, before any pass is brought home
pub record AreApart (bs : List BenchValue) : Type 0 where
  pub call : List DequeId
  pub long : length call ≡ length bs
  pub each : (k : ℕ) (d : BenchValue) → k < length bs → IsApart call k (slice_index_or bs k d)

-- such a bench that has done nothing yet
pub record IsNewBench (call : List DequeId) (capacity k : ℕ) (b : BenchValue) : Type 0 where
  pub apart : IsApart call k b
  pub pushed : b.pushed ≡ []
  pub taken : b.taken ≡ []
  pub room : capacity ≤ b.capacity

-- so many benches of one call, new
pub record AreNew (growers capacity : ℕ) (bs : List BenchValue) : Type 0 where
  pub many : length bs ≡ growers
  pub call : List DequeId
  pub long : length call ≡ growers
  pub each : (k : ℕ) (d : BenchValue) → k < growers → IsNewBench call capacity k (slice_index_or bs k d)

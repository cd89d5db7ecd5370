-- How the owners of new deques give a share to each other bench.
use Rattle.std.specs.Prelude.{ℕ, ◌+◌, ◌<◌, ◌≤◌, ◌≡◌, ◌≢◌, true, List, [], ◌∷◌, length, map, Some, None, slice_index_or}
use Rattle.parcel_deques.specs.Rule.{all_shares, hand, share_kept, share_given}
use Rattle.parcel_deques.specs.Ends.{DequeId, EndValue}
use Rattle.parcel_deques.specs.Owners.{OwnValue}
use Rattle.parcel_deques.specs.Benches.{BenchValue, IsBench, bench_of}

-- which deques they are
abbrev pub deques : List OwnValue → List DequeId
deques = map (λ (o : OwnValue). o.deque)

-- the owner at place k, after the benches below j got their shares of its deque
pub record IsSharing (capacity j k : ℕ) (o : OwnValue) : Type 0 where
  pub capacity_is : o.capacity ≡ capacity
  pub hand_is : o.hand ≡ hand k o.hand.share true [] [] (k ∷ [])
  pub before : k < j → o.hand.share + j ≡ all_shares + 1
  pub after : j ≤ k → o.hand.share + j ≡ all_shares

-- all owners
pub record AreSharing (growers capacity j : ℕ) (owns : List OwnValue) : Type 0 where
  pub many : length owns ≡ growers
  pub each : (k : ℕ) (d : OwnValue) → k < growers → IsSharing capacity j k (slice_index_or owns k d)

-- the owner at place k gave an end to a bench: without a pass to its own, with one share to any other
pub record HasGiven (taker k : ℕ) (old now : OwnValue) (e : EndValue) : Type 0 where
  pub deque : now.deque ≡ old.deque
  pub capacity : now.capacity ≡ old.capacity
  pub end : e.deque ≡ old.deque
  pub here : k ≡ taker → (now.hand ≡ old.hand) × (e.pass ≡ None)
  pub away : k ≢ taker → (now.hand ≡ share_kept old.hand.deque old.hand) × (e.pass ≡ Some (share_given old.hand.deque taker))

-- the owners below place i gave an end each
pub record AreGiving (taker i : ℕ) (old now : List OwnValue) (ends : List EndValue) : Type 0 where
  pub many : length now ≡ length old
  pub given : length ends ≡ i
  pub done : (k : ℕ) (d e : OwnValue) (f : EndValue) → k < i → HasGiven taker k (slice_index_or old k d) (slice_index_or now k e) (slice_index_or ends k f)
  pub rest : (k : ℕ) (d : OwnValue) → i ≤ k → slice_index_or now k d ≡ slice_index_or old k d

-- the ends of a bench in a call with these deques
pub record AreEnds (call : List DequeId) (taker : ℕ) (ends : List EndValue) : Type 0 where
  pub call_is : map (λ (e : EndValue). e.deque) ends ≡ call
  pub here : (f : EndValue) → (slice_index_or ends taker f).pass ≡ None
  pub away : (k : ℕ) (f : EndValue) → k < length call → k ≢ taker → (slice_index_or ends k f).pass ≡ Some (share_given k taker)

-- owners and ends fit together
pub record AreParts (owns : List OwnValue) (lists : List (List EndValue)) : Type 0 where
  pub many : length lists ≡ length owns
  pub each : (k : ℕ) (d : OwnValue) (f : List EndValue) → k < length owns → IsBench (slice_index_or owns k d) (slice_index_or lists k f)

-- the benches that are made of them, so far
pub record AreMade (owns : List OwnValue) (lists : List (List EndValue)) (i : ℕ) (bs : List BenchValue) : Type 0 where
  pub many : length bs ≡ i
  pub each : (k : ℕ) (d : OwnValue) (f : List EndValue) (b : BenchValue) → k < i → slice_index_or bs k b ≡ bench_of (slice_index_or owns k d) (slice_index_or lists k f)

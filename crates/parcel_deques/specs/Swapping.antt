-- Benches that bring each other's passes home, pair by pair.
use Rattle.std.specs.Prelude.{ℕ, ◌+◌, ◌<◌, ◌≤◌, ◌≡◌, ◌≢◌, ◌⊎◌, ◌==◌, if◌then◌else◌, List, [], ◌∷◌, ◌++◌, length, slice_index_or, slice_set, Contains}
use Rattle.parcel_deques.specs.declared.parcel.Slip.{Slip}
use Rattle.parcel_deques.specs.Lists.{weigh, SameItems}
use Rattle.parcel_deques.specs.Ends.{DequeId}
use Rattle.parcel_deques.specs.Benches.{BenchValue}
use Rattle.parcel_deques.specs.Gather.{all_taken}

-- how many of the slips have this owner
abbrev pub count_of : ℕ → List Slip → ℕ
count_of n = weigh (λ (x : Slip). if x.tag.owner == n then 1 else 0)

-- a bench has swapped passes with another: it has the other's pass of its deque, the other has its pass, and it notes no slip of the other
pub record HasSwapped (other : ℕ) (old now : BenchValue) : Type 0 where
  pub number : now.number ≡ old.number
  pub call : now.call ≡ old.call
  pub pushed : now.pushed ≡ old.pushed
  pub capacity : now.capacity ≡ old.capacity
  pub home : now.home ≡ old.home ++ other ∷ []
  pub away : SameItems now.away (old.away ++ other ∷ [])
  pub none : count_of other now.taken ≡ 0
  pub others : (x : ℕ) → x ≢ old.number → x ≢ other → count_of x now.taken ≡ count_of x old.taken

-- two benches have swapped passes, and no slip is lost
pub record HaveSwapped (one two now_one now_two : BenchValue) : Type 0 where
  pub first : HasSwapped two.number one now_one
  pub second : HasSwapped one.number two now_two
  pub slips : (h : Slip → ℕ) → weigh h now_one.taken + weigh h now_two.taken ≡ weigh h one.taken + weigh h two.taken

-- two benches of one call may swap passes
pub record MaySwap (one two : BenchValue) : Type 0 where
  pub call : one.call ≡ two.call
  pub apart : one.number ≢ two.number
  pub one_home : ¬ (Contains one.home two.number)
  pub one_away : ¬ (Contains one.away two.number)
  pub two_home : ¬ (Contains two.home one.number)
  pub two_away : ¬ (Contains two.away one.number)

-- the benches at two places of a list have swapped passes
pub record HaveSwappedAt (i j : ℕ) (old now : List BenchValue) : Type 0 where
  pub one : BenchValue
  pub two : BenchValue
  pub is : now ≡ slice_set (slice_set old i one) j two
  pub swapped : (d : BenchValue) → HaveSwapped (slice_index_or old i d) (slice_index_or old j d) one two

-- the bench with the number k has swapped passes with all others below c
pub record IsStage (call : List DequeId) (k c : ℕ) (old now : BenchValue) : Type 0 where
  pub number : now.number ≡ k
  pub call_is : now.call ≡ call
  pub pushed : now.pushed ≡ old.pushed
  pub capacity : now.capacity ≡ old.capacity
  pub own : Contains now.home k
  pub home : (x : ℕ) → x < c → Contains now.home x
  pub home_only : (x : ℕ) → c ≤ x → x ≢ k → ¬ (Contains now.home x)
  pub away_only : (x : ℕ) → c ≤ x → x ≢ k → ¬ (Contains now.away x)
  pub taken : (x : ℕ) → (x < c) ⊎ (length call ≤ x) → x ≢ k → count_of x now.taken ≡ 0

-- those below j have swapped passes with each other, and those below i with the bench j too
pub record AreSwapping (i j : ℕ) (old now : List BenchValue) : Type 0 where
  pub many : length now ≡ length old
  pub call : List DequeId
  pub long : length call ≡ length old
  pub begun : (k : ℕ) (d : BenchValue) → k < length old → ((slice_index_or old k d).number ≡ k) × ((slice_index_or old k d).call ≡ call)
  pub below : (k : ℕ) (d e : BenchValue) → k < i → k < j → IsStage call k (j + 1) (slice_index_or old k d) (slice_index_or now k e)
  pub between : (k : ℕ) (d e : BenchValue) → i ≤ k → k < j → IsStage call k j (slice_index_or old k d) (slice_index_or now k e)
  pub this : (d e : BenchValue) → j < length old → IsStage call j i (slice_index_or old j d) (slice_index_or now j e)
  pub above : (k : ℕ) (d e : BenchValue) → j < k → k < length old → IsStage call k 0 (slice_index_or old k d) (slice_index_or now k e)
  pub slips : SameItems (all_taken now) (all_taken old)

-- A bench, as callers see it.
use Rattle.std.specs.Prelude.{ℕ, suc, ◌+◌, ◌<◌, ◌≤◌, ◌≡◌, ◌⊎◌, ◌==◌, if◌then◌else◌, true, List, [], ◌∷◌, ◌++◌, length, map, Option, Some, None, Contains, slice_index, slice_get}
use Rattle.parcel_deques.specs.declared.parcel.Slip.{Slip}
use Rattle.parcel_deques.specs.declared.rule.Hand.{Hand}
use Rattle.parcel_deques.specs.Parcels.{AllOwned, owned_by}
use Rattle.parcel_deques.specs.Rule.{all_shares, WasEmpty}
use Rattle.parcel_deques.specs.Ends.{DequeId, EndValue}
use Rattle.parcel_deques.specs.Owners.{OwnValue}

-- a bench: its number; the deques of all benches of its call, in order; what it pushed on its own, and what its passes took
-- of all; whose shares of its own deque it holds, and who took over its pass of theirs; the capacity that is promised; and
-- for each deque how many slips it knows to have left
pub record BenchValue : Type 0 where
  pub number : ℕ
  pub call : List DequeId
  pub pushed : List Slip
  pub taken : List Slip
  pub home : List ℕ
  pub away : List ℕ
  pub capacity : ℕ
  pub known : List ℕ

-- from the own end and an end for each deque

abbrev pub pass_taken : Option Hand → List Slip
pass_taken None = []
pass_taken (Some v) = v.taken

abbrev pub passes_taken : List EndValue → List Slip
passes_taken [] = []
passes_taken (e ∷ es) = pass_taken e.pass ++ passes_taken es

abbrev pub gone : ℕ → Option Hand → List ℕ
gone k None = k ∷ []
gone k (Some v) = []

-- the deques without a pass, from place k on, but for the own one
abbrev pub away_from : ℕ → ℕ → List EndValue → List ℕ
away_from n k [] = []
away_from n k (e ∷ es) = (if k == n then [] else gone k e.pass) ++ away_from n (suc k) es

abbrev pub bench_of : OwnValue → List EndValue → BenchValue
bench_of o es = record { number = o.hand.deque; call = map (λ (e : EndValue). e.deque) es; pushed = o.hand.pushed; taken = o.hand.taken ++ passes_taken es; home = o.hand.home; away = away_from o.hand.deque 0 es; capacity = o.capacity; known = map (λ (e : EndValue). e.known) es }

-- the end at place k: none for the own deque; else a pass with one share, which this bench was given
pub record IsEnd (number k : ℕ) (e : EndValue) : Type 0 where
  pub own : k ≡ number → e.pass ≡ None
  pub view : (v : Hand) → e.pass ≡ Some v → (v.deque ≡ k) × (v.share ≡ 1) × (v.home ≡ number ∷ []) × AllOwned k v.taken

-- what holds of every bench
pub record IsBench (o : OwnValue) (es : List EndValue) : Type 0 where
  pub few : length es ≤ 16
  pub within : o.hand.deque < length es
  pub pushes : o.hand.pushes ≡ true
  pub share : o.hand.share + length es ≡ all_shares + length o.hand.home
  pub home : Contains o.hand.home o.hand.deque
  pub owned : AllOwned o.hand.deque o.hand.taken
  pub deque : (e : EndValue) → slice_get es o.hand.deque ≡ Some e → e.deque ≡ o.deque
  pub each : (k : ℕ) (e : EndValue) → slice_get es k ≡ Some e → IsEnd o.hand.deque k e

-- what the calls tell

-- it holds the shares of all benches
abbrev pub HasAll : BenchValue → Type 0
HasAll b = (k : ℕ) → k < length b.call → Contains b.home k

-- deque k was empty at a moment at which some view had just these slips taken
abbrev pub FoundEmpty : ℕ → List Slip → Type 0
FoundEmpty k slips = (v : Hand) × (v.deque ≡ k) × (v.taken ≡ slips) × WasEmpty v

-- there is a lawful state of its own deque with nothing in it, in which it pushed and took just these, and other passes the
-- rest of what it pushed
abbrev pub FoundOwnEmpty : BenchValue → Type 0
FoundOwnEmpty b = (v : Hand) × (v.deque ≡ b.number) × (v.pushes ≡ true) × (v.pushed ≡ b.pushed) × (v.taken ≡ owned_by b.number b.taken) × WasEmpty v

-- a try at deque k found nothing: more slips are known to have left it than before, or it was empty
abbrev pub FoundNone : BenchValue → BenchValue → ℕ → Type 0
FoundNone old new k = (slice_index old.known k < slice_index new.known k) ⊎ FoundEmpty k (owned_by k old.taken)

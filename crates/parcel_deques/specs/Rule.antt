-- The rule of a deque: what holds of its parcels and of all passes, between any two steps.
use Rattle.std.specs.Prelude.{ℕ, suc, ◌+◌, ◌-◌, ◌<◌, ◌≤◌, ◌≡◌, Bool, true, false, List, [], ◌∷◌, ◌++◌, length, ⊤}
use mathlib.Core.Option.{some}
use lib.ListN.{get_elem?}
use Rattle.parcel_deques.specs.declared.parcel.Slip.{Slip}
use Rattle.parcel_deques.specs.declared.rule.Hand.{Hand}
use Rattle.parcel_deques.specs.Lists.{weigh, SameItems}
use Rattle.parcel_deques.specs.Parcels.{tag_of, AllOwned}

-- the shares of all passes of a deque together
abbrev pub all_shares : ℕ
all_shares = 16

abbrev pub hand : ℕ → ℕ → Bool → List Slip → List Slip → List ℕ → Hand
hand deque share pushes pushed taken home = record { deque = deque; share = share; pushes = pushes; pushed = pushed; taken = taken; home = home }

-- the owner of a new deque
abbrev pub founder : Hand
founder = hand 0 all_shares true [] [] []

-- slips were loaded; slips were taken
abbrev pub loaded : Hand → List Slip → Hand
loaded v xs = hand v.deque v.share v.pushes (v.pushed ++ xs) v.taken v.home

abbrev pub took : Hand → List Slip → Hand
took v xs = hand v.deque v.share v.pushes v.pushed (v.taken ++ xs) v.home

-- the owner gives a share away: what is left, and the new pass
abbrev pub share_kept : ℕ → Hand → Hand
share_kept deque v = hand deque (v.share - 1) true v.pushed v.taken v.home

abbrev pub share_given : ℕ → ℕ → Hand
share_given deque taker = hand deque 1 false [] [] (taker ∷ [])

-- the owner takes a pass in, and what the pass knows afterwards
abbrev pub absorbed : Hand → Hand → Hand
absorbed v w = hand v.deque (v.share + w.share) true v.pushed (v.taken ++ w.taken) (v.home ++ w.home)

abbrev pub used_up : Hand
used_up = hand 0 0 false [] [] []

-- each slip has the deque's number, and its place among all that were loaded
abbrev pub AllTagged : ℕ → ℕ → List Slip → Type 0
AllTagged n k [] = ⊤
AllTagged n k (x ∷ xs) = (x.tag ≡ tag_of n k) × AllTagged n (suc k) xs

abbrev pub shares : List Hand → ℕ
shares = weigh (λ (v : Hand). v.share)

-- what the views have taken, weighed
abbrev pub taken_weight : (Slip → ℕ) → List Hand → ℕ
taken_weight h = weigh (λ (v : Hand). weigh h v.taken)

-- what the rule says of one view: one alone may push, and knows all that was pushed; a view without a share has nothing
pub record FitsDeque (deque owner : ℕ) (pushed : List Slip) (port : ℕ) (v : Hand) : Type 0 where
  pub pushes : v.pushes ≡ true → (port ≡ owner) × (v.pushed ≡ pushed)
  pub idle : v.share ≡ 0 → v.taken ≡ []
  pub deque_is : 0 < v.share → v.deque ≡ deque
  pub owned : 0 < v.share → AllOwned v.deque v.taken

-- the taken slips are the first of those that were pushed, the deque holds the rest, and each taken slip is noted by just
-- one view. The views with a share hold the whole together
pub record DequeHolds (items : List Slip) (views : List Hand) : Type 0 where
  pub owner : ℕ
  pub deque : ℕ
  pub pushed : List Slip
  pub taken : List Slip
  pub rest : pushed ≡ taken ++ items
  pub tagged : AllTagged deque 0 pushed
  pub whole_is : shares views ≡ all_shares
  pub each : (h : Slip → ℕ) → taken_weight h views ≡ weigh h taken
  pub fits : (port : ℕ) (v : Hand) → get_elem? views port ≡ some v → FitsDeque deque owner pushed port v

-- at some moment at which this was the view of some pass, the deque was empty
abbrev pub WasEmpty : Hand → Type 0
WasEmpty v = (port : ℕ) × (views : List Hand) × DequeHolds [] views × (get_elem? views port ≡ some v)

-- the same, and the owner with the whole share has taken all that was pushed
abbrev pub Drained : Hand → Type 0
Drained v = WasEmpty v × (v.pushes ≡ true → all_shares ≤ v.share → SameItems v.taken v.pushed)

-- slips were taken by a pass; the owner has not taken more than was pushed
abbrev pub IsTaking : Hand → List Slip → Hand → Type 0
IsTaking v xs w = (w ≡ took v xs) × AllOwned v.deque xs × (v.pushes ≡ true → length (v.taken ++ xs) ≤ length v.pushed)

abbrev pub IsLoading : Hand → List Slip → Hand → Type 0
IsLoading v xs w = w ≡ loaded v xs

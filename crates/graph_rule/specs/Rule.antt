-- The rule of the shared table: what holds of its words and of all that the seats know, between any two steps.
use Rattle.std.specs.Prelude.{ℕ, ◌+◌, ◌<◌, ◌≤◌, ◌≡◌, ◌⊎◌, nat_eq, ◌==◌, if◌then◌else◌, List, [], ◌∷◌, length, Contains}
use Rattle.std.specs.List.{IsDistinct}
use mathlib.Core.Option.{some}
use lib.ListN.{get_elem?}
use Rattle.tensor_words.specs.Worlds.{WorldType, IsWorld}
use Rattle.graph_history.specs.declared.event.Event.{Event}
use Rattle.graph_history.specs.declared.view.Dues.{Dues}
use Rattle.graph_history.specs.Views.{View}
use Rattle.graph_history.specs.History.{State, state_of, HasVertex, HasSome, IsWhole, IsLegal, caller_of}
use Rattle.shared_seats.specs.Seats.{IsPrefix as seats_prefix, IsUnused as is_unused, HasCalls as has_calls, IsSound, HasLive, IsSeated}
use Rattle.graph_rule.specs.Layout.{IsLaid, IsPlaced}

-- the stake of all seats together
abbrev pub whole : ℕ
whole = 65536

-- what one seat knows

abbrev pub IsPrefix : List Event → List Event → Type 0
IsPrefix f h = seats_prefix f h

-- the number is one that the seat may give to a seat that is split off
abbrev pub IsUnused : View → ℕ → Type 0
IsUnused v n = is_unused v n

-- the calls of the view's number, and of each number that it keeps, are in this history just those that the view has
abbrev pub HasCalls : View → List Event → Type 0
HasCalls v h = has_calls caller_of v h

-- each owed cell has a vertex, the unpaid cells are among them and each stands there once, and at most one further debt
-- is pledged
pub record IsDues (s : State) (d : Dues) : Type 0 where
  pub owed : (c : ℕ) → Contains d.owed c → HasSome s c
  pub among : (c : ℕ) → Contains d.unpaid c → Contains d.owed c
  pub once : IsDistinct nat_eq d.unpaid
  pub pledge : d.pledge ≤ 1

-- what every seat that was not joined away knows, from its own front alone
pub record IsKnown (v : View) : Type 0 where
  pub sound : IsSound whole caller_of v
  pub world : IsWorld v.world
  pub legal : IsLegal v.world v.front
  pub dues : IsDues (state_of v.front) v.dues

-- what a seat with the whole stake knows besides, since it is the only one: each vertex is whole or unpaid here, and all
-- debts are its own
pub record Completes (v : View) : Type 0 where
  pub vertices : (c x : ℕ) → HasVertex (state_of v.front) c x → IsWhole v.world (state_of v.front) c ⊎ Contains v.dues.unpaid c
  pub debts : (state_of v.front).debts ≡ length v.dues.unpaid + v.dues.pledge

abbrev pub IsComplete : View → Type 0
IsComplete v = v.stake ≡ whole → Completes v

-- all seats together: a view is live where its stake is not 0

-- the debts of a live view: its unpaid cells and its pledge
unfoldable pub due : View → ℕ
due v = if v.stake == 0 then 0 else length v.dues.unpaid + v.dues.pledge

abbrev pub debts_of : List View → ℕ
debts_of [] = 0
debts_of (v ∷ vs) = due v + debts_of vs

-- some live view has the cell unpaid
abbrev pub IsUnpaid : List View → ℕ → Type 0
IsUnpaid views c = HasLive views (λ v. Contains v.dues.unpaid c)

-- what the rule says of the dues of one live view: `payer` names for each unpaid cell its one seat, so that no unpaid cell
-- belongs to two seats
pub record Owes (payer : ℕ → ℕ) (id : ℕ) (v : View) : Type 0 where
  pub dues : IsDues (state_of v.front) v.dues
  pub pays : (c : ℕ) → Contains v.dues.unpaid c → payer c ≡ id

-- the rule of the table: there is one legal history, which the seats know together. The words are those of its state; and
-- every debt is somebody's
pub record IsRunning (w : WorldType) (words : List ℕ) (views : List View) : Type 0 where
  pub history : List Event
  pub seated : IsSeated whole caller_of w views history
  pub payer : ℕ → ℕ
  pub world : IsWorld w
  pub legal : IsLegal w history
  pub laid : IsLaid w words (state_of history)
  pub placed : (c x : ℕ) → HasVertex (state_of history) c x → IsPlaced w (state_of history) c x
  pub owing : (id : ℕ) (v : View) → get_elem? views id ≡ some v → 0 < v.stake → Owes payer id v
  pub counted : (state_of history).debts ≡ debts_of views
  pub covered : (c x : ℕ) → HasVertex (state_of history) c x → IsWhole w (state_of history) c ⊎ IsUnpaid views c

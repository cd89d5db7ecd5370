-- What a parcel carries, and the slips that tell of it.
use Rattle.std.specs.Prelude.{ℕ, ◌≡◌, ◌<◌, ◌≤◌, ◌==◌, nat_eq, not, List, [], length, filter, All, Contains}
use Rattle.std.specs.List.{IsDistinct}
use Rattle.graph_history.specs.History.{state_of, HasSome}
use Rattle.graph_rule.specs.Parting.{nobody}
use Rattle.graph_rule.specs.Values.{GraphValue, SeatValue, Belongs}
use Rattle.parcel_deques.specs.declared.parcel.Tag.{Tag}
use Rattle.parcel_deques.specs.declared.parcel.Slip.{Slip}

-- the graph of a name that nobody picked
abbrev pub no_graph : GraphValue
no_graph = record { table = record { words = 0; slots = 0; views_name = 0; atom = 0; block = 0; offset = 0; slot_names = [] }; world = nobody.world }

-- the cells were handed over with the seat: it owes these alone, each is unpaid there, and nothing was done at it yet
pub record IsHanded (g : GraphValue) (cells : List ℕ) (s : SeatValue) : Type 0 where
  pub belongs : Belongs s g
  pub unheard : s.view.calls ≡ []
  pub alone : s.view.kept ≡ []
  pub pledge : s.view.dues.pledge ≡ 0
  pub few : length cells ≤ 64
  pub once : IsDistinct nat_eq cells
  pub there : All (HasSome (state_of s.view.front)) cells
  pub owed : (c : ℕ) → Contains s.view.dues.owed c → Contains cells c
  pub unpaid : (c : ℕ) → Contains cells c → Contains s.view.dues.unpaid c
  pub no_other : (c : ℕ) → Contains s.view.dues.unpaid c → Contains cells c

abbrev pub tag_of : ℕ → ℕ → Tag
tag_of owner place = record { owner = owner; place = place }

-- the slip under another tag
abbrev pub tagged : Tag → Slip → Slip
tagged tag x = record { tag = tag; cells = x.cells; stake = x.stake }

-- the slip was loaded by this bench
abbrev pub IsOwned : ℕ → Slip → Type 0
IsOwned n x = x.tag.owner ≡ n

abbrev pub AllOwned : ℕ → List Slip → Type 0
AllOwned n = All (IsOwned n)

-- the owners are below a number
abbrev pub AllBelow : ℕ → List Slip → Type 0
AllBelow n = All (λ (x : Slip). x.tag.owner < n)

-- the slips of one owner, and those of all others
abbrev pub owned_by : ℕ → List Slip → List Slip
owned_by n = filter (λ (x : Slip). x.tag.owner == n)

abbrev pub others_than : ℕ → List Slip → List Slip
others_than n = filter (λ (x : Slip). not (x.tag.owner == n))

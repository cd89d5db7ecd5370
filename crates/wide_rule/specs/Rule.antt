-- The rule of the wide table: what holds of its words and of all that the seats know, between any two steps.
use Rattle.std.specs.Prelude.{ℕ, ◌+◌, ◌<◌, ◌≡◌, ◌≢◌, ◌⊎◌, ◌==◌, if◌then◌else◌, List, [], ◌∷◌, map, sum_by, Some, Contains}
use mathlib.Core.Option.{some}
use lib.ListN.{get_elem?}
use Rattle.graph_history.specs.declared.event.Event.{Event}
use Rattle.graph_history.specs.History.{Vertex, State, state_of, HasVertex, HasSome, IsWhole, caller_of}
use Rattle.shared_seats.specs.declared.view.View.{View}
use Rattle.shared_seats.specs.Seats.{IsSound, HasLive, IsSeated}
use Rattle.wide_words.specs.WideHistory.{WideWorldType, IsWideWorld, flat, IsWideLegal}
use Rattle.wide_rule.specs.declared.dues.WideDues.{WideDues}
use Rattle.wide_rule.specs.Layout.{cell_count, first_word, pair_of, IsLaid, IsPlaced, HasSeen}

-- what a seat of a wide graph knows
abbrev pub WideView : Type 0
WideView = View WideWorldType Event WideDues

-- the stake of all seats together
abbrev pub whole : ℕ
whole = 32

-- the cells of the vertices, in the order of growth
abbrev pub cells_of : State → List ℕ
cells_of s = map (λ (v : Vertex). v.cell) s.vertices

-- what every seat that was not joined away knows, from its own front alone: each owed cell has a vertex
pub record IsKnown (v : WideView) : Type 0 where
  pub sound : IsSound whole caller_of v
  pub world : IsWideWorld v.world
  pub legal : IsWideLegal v.world v.front
  pub owed : (c : ℕ) → Contains v.dues.owed c → HasSome (state_of v.front) c

-- what a seat with the whole stake knows besides, since it is the only one: each vertex is whole or owed here, and every
-- vertex was owed once, so that however cells are weighed, what is owed weighs as much as the vertices' cells
pub record Completes (v : WideView) : Type 0 where
  pub vertices : (c x : ℕ) → HasVertex (state_of v.front) c x → IsWhole (flat v.world) (state_of v.front) c ⊎ Contains v.dues.owed c
  pub counted : (weigh : ℕ → ℕ) → sum_by weigh v.dues.owed ≡ sum_by weigh (cells_of (state_of v.front))

abbrev pub IsComplete : WideView → Type 0
IsComplete v = v.stake ≡ whole → Completes v

-- all seats together: a view is live where its stake is not 0

-- some live view has the cell pending: it exchanged the first word and not yet the second
abbrev pub IsPending : List WideView → ℕ → Type 0
IsPending views c = HasLive views (λ v. v.dues.pending ≡ Some c)

abbrev pub IsOwed : List WideView → ℕ → Type 0
IsOwed views c = HasLive views (λ v. Contains v.dues.owed c)

-- the cells that live views owe, each weighed
unfoldable pub due : (ℕ → ℕ) → WideView → ℕ
due weigh v = if v.stake == 0 then 0 else sum_by weigh v.dues.owed

abbrev pub dues_of : (ℕ → ℕ) → List WideView → ℕ
dues_of weigh [] = 0
dues_of weigh (v ∷ vs) = due weigh v + dues_of weigh vs

-- the cell has this first word, and it is not 0: from then on it stays
abbrev pub IsTrue : WideWorldType → List ℕ → ℕ → ℕ → Type 0
IsTrue w words c n = (c < cell_count w) × (first_word words c ≡ n) × (n ≢ 0)

-- the rule of the table: there is one legal history, which the longest front of a live view is and of which every other
-- is a prefix. The words are those of its state. Each cell with a first word has a vertex or is pending at a live view.
-- What the live views saw and owe is so, each vertex that is not whole is owed, and all that is owed, each cell weighed
-- in whatever way, weighs as much as the vertices' cells
pub record IsRunning (w : WideWorldType) (words : List ℕ) (views : List WideView) : Type 0 where
  pub history : List Event
  pub seated : IsSeated whole caller_of w views history
  pub world : IsWideWorld w
  pub legal : IsWideLegal w history
  pub laid : IsLaid w words (state_of history)
  pub placed : (c x : ℕ) → HasVertex (state_of history) c x → IsPlaced w words (state_of history) (pair_of w x) c
  pub alone : (c : ℕ) → c < cell_count w → first_word words c ≢ 0 → HasSome (state_of history) c ⊎ IsPending views c
  pub saw : (id : ℕ) (v : WideView) → get_elem? views id ≡ some v → 0 < v.stake → (c n : ℕ) → HasSeen v.dues.seen c n → IsTrue w words c n
  pub owing : (id : ℕ) (v : WideView) → get_elem? views id ≡ some v → 0 < v.stake → (c : ℕ) → Contains v.dues.owed c → HasSome (state_of v.front) c
  pub covered : (c x : ℕ) → HasVertex (state_of history) c x → IsWhole (flat w) (state_of history) c ⊎ IsOwed views c
  pub counted : (weigh : ℕ → ℕ) → dues_of weigh views ≡ sum_by weigh (cells_of (state_of history))

-- The growing graph as a list of events: states, legal events, legal histories.
use Rattle.std.specs.Prelude.{ℕ, zero, suc, ◌+◌, ◌-◌, ◌<◌, ◌≡◌, ◌==◌, ◌&&◌, Bool, true, false, not, if◌then◌else◌, ⊤, List, [], ◌∷◌, ◌++◌, length, filter, Option, Some, None, is_some, Contains}
use Rattle.crystal_cartan.specs.declared.types.Arrow.{Arrow}
use Rattle.tensor_words.specs.Spaces.{size}
use Rattle.tensor_words.specs.Operators.{IsArrow, op}
use Rattle.tensor_words.specs.Worlds.{WorldType}
use Rattle.shared_seats.specs.Seats.{calls as seats_calls}
use Rattle.graph_history.specs.declared.event.Origin.{Origin}
use Rattle.graph_history.specs.declared.event.Origin.TheVariants.{Root, By}
use Rattle.graph_history.specs.declared.event.Act.{Act}
use Rattle.graph_history.specs.declared.event.Act.TheVariants.{Added, Met, Missed, Spent, Drew, Saw, Blank, Owed, Settled, Tally}
use Rattle.graph_history.specs.declared.event.Event.{Event}

-- a vertex: the word with this code was put into this cell
pub record Vertex : Type 0 where
  pub cell : ℕ
  pub code : ℕ

-- a drawn arrow: from the vertex of a cell to that of another, or to zero (None)
pub record DrawnArrow : Type 0 where
  pub cell : ℕ
  pub arrow : Arrow
  pub to : Option ℕ

-- the graph as far as it has grown, in the order of growth, and the number of debts
pub record State : Type 0 where
  pub vertices : List Vertex
  pub drawn : List DrawnArrow
  pub debts : ℕ

abbrev pub empty_state : State
empty_state = record { vertices = []; drawn = []; debts = 0 }

-- `Added` appends a vertex, `Drew` appends an arrow, `Owed` adds one debt, `Settled` takes one off, every other act
-- changes nothing
abbrev pub after : State → Act → State
after s (Added c x o) = record s { vertices = s.vertices ++ record { cell = c; code = x } ∷ [] }
after s (Met c x) = s
after s (Missed x) = s
after s (Spent x) = s
after s (Drew c a t) = record s { drawn = s.drawn ++ record { cell = c; arrow = a; to = t } ∷ [] }
after s (Saw c a t) = s
after s (Blank c a) = s
after s Owed = record s { debts = s.debts + 1 }
after s (Settled paid) = record s { debts = s.debts - 1 }
after s (Tally n) = s

-- the state after these events, from a state on, and from the empty one
abbrev pub state_from : State → List Event → State
state_from s [] = s
state_from s (e ∷ es) = state_from (after s e.act) es

abbrev pub state_of : List Event → State
state_of h = state_from empty_state h

-- the code of the vertex at a cell
abbrev pub vertex_at : List Vertex → ℕ → Option ℕ
vertex_at [] c = None
vertex_at (v ∷ vs) c = if v.cell == c then Some v.code else vertex_at vs c

-- the vertex (cell, code) is in the state
abbrev pub HasVertex : State → ℕ → ℕ → Type 0
HasVertex s c x = vertex_at s.vertices c ≡ Some x

-- the cell has a vertex; some cell has a vertex with this code; none has
abbrev pub HasSome : State → ℕ → Type 0
HasSome s c = (x : ℕ) × HasVertex s c x

abbrev pub HasCode : State → ℕ → Type 0
HasCode s x = (c : ℕ) × HasVertex s c x

abbrev pub IsNew : State → ℕ → Type 0
IsNew s x = (c : ℕ) → HasVertex s c x → ⊥

-- whether two arrows are the same operator
abbrev pub same_way : Bool → Bool → Bool
same_way true b = b
same_way false b = not b

abbrev pub same_arrow : Arrow → Arrow → Bool
same_arrow a b = (a.index == b.index) && same_way a.down b.down

-- the target of the arrow that is drawn from a cell
abbrev pub target_at : List DrawnArrow → ℕ → Arrow → Option (Option ℕ)
target_at [] c a = None
target_at (d ∷ ds) c a = if (d.cell == c) && same_arrow d.arrow a then Some d.to else target_at ds c a

-- just this arrow with this target is drawn; the arrow is drawn; it is not
abbrev pub HasArrow : State → ℕ → Arrow → Option ℕ → Type 0
HasArrow s c a t = target_at s.drawn c a ≡ Some t

abbrev pub IsDrawn : State → ℕ → Arrow → Type 0
IsDrawn s c a = (t : Option ℕ) × HasArrow s c a t

abbrev pub IsUndrawn : State → ℕ → Arrow → Type 0
IsUndrawn s c a = target_at s.drawn c a ≡ None

-- where a word may come from: it is a root, or an operator gives it at a vertex
abbrev pub IsOrigin : WorldType → State → ℕ → Origin → Type 0
IsOrigin w s x Root = Contains w.roots x
IsOrigin w s x (By c a) = (y : ℕ) × HasVertex s c y × IsArrow w.space a × (op w.space a y ≡ Some x)

-- the target is what the operator gives at the code y: zero, or a cell whose vertex has its code
abbrev pub IsTarget : WorldType → State → Arrow → ℕ → Option ℕ → Type 0
IsTarget w s a y None = op w.space a y ≡ None
IsTarget w s a y (Some t) = (x : ℕ) × (op w.space a y ≡ Some x) × HasVertex s t x

-- all arrows of the type are drawn from the cell
abbrev pub IsWhole : WorldType → State → ℕ → Type 0
IsWhole w s c = (a : Arrow) → IsArrow w.space a → IsDrawn s c a

-- every vertex is whole
abbrev pub IsClosed : WorldType → State → Type 0
IsClosed w s = (c : ℕ) → HasSome s c → IsWhole w s c

-- the test of that for one arrow, for all arrows up to an index, and for all of the type
abbrev pub is_drawn : List DrawnArrow → ℕ → Bool → ℕ → Bool
is_drawn ds c down i = is_some (target_at ds c (record { down = down; index = i }))

unfoldable pub are_drawn : List DrawnArrow → ℕ → ℕ → Bool
are_drawn ds c zero = true
are_drawn ds c (suc n) = is_drawn ds c true (suc n) && (is_drawn ds c false (suc n) && are_drawn ds c n)

abbrev pub is_whole : WorldType → List DrawnArrow → ℕ → Bool
is_whole w ds c = are_drawn ds c w.space.cartan.rank

-- the vertices that are not whole, and their number
abbrev pub open_vertices : WorldType → State → List Vertex
open_vertices w s = filter (λ (v : Vertex). not (is_whole w s.drawn v.cell)) s.vertices

abbrev pub unfinished : WorldType → State → ℕ
unfinished w s = length (open_vertices w s)

-- the debts outnumber the vertices that are not whole
abbrev pub HasSpareDebt : WorldType → State → Type 0
HasSpareDebt w s = unfinished w s < s.debts

-- when each act is legal
pub record MayAdd (w : WorldType) (s : State) (c x : ℕ) (o : Origin) : Type 0 where
  pub word : x < size w.space
  pub fresh : IsNew s x
  pub cell : c < w.cells
  pub free : vertex_at s.vertices c ≡ None
  pub origin : IsOrigin w s x o
  pub owed : HasSpareDebt w s

pub record MayMiss (w : WorldType) (s : State) (x : ℕ) : Type 0 where
  pub word : x < size w.space
  pub fresh : IsNew s x

pub record MaySpend (w : WorldType) (s : State) (x : ℕ) : Type 0 where
  pub fresh : IsNew s x
  pub full : length s.vertices ≡ w.cells
  pub origin : Origin
  pub cause : IsOrigin w s x origin

pub record MayDraw (w : WorldType) (s : State) (c : ℕ) (a : Arrow) (t : Option ℕ) : Type 0 where
  pub code : ℕ
  pub there : HasVertex s c code
  pub arrow : IsArrow w.space a
  pub undrawn : IsUndrawn s c a
  pub target : IsTarget w s a code t

pub record MayBlank (w : WorldType) (s : State) (c : ℕ) (a : Arrow) : Type 0 where
  pub there : HasSome s c
  pub arrow : IsArrow w.space a
  pub undrawn : IsUndrawn s c a

-- a debt that is settled is paid for no cell, or for a vertex that is whole
abbrev pub IsPayable : WorldType → State → Option ℕ → Type 0
IsPayable w s None = ⊤
IsPayable w s (Some c) = HasSome s c × IsWhole w s c

pub record MaySettle (w : WorldType) (s : State) (paid : Option ℕ) : Type 0 where
  pub spare : HasSpareDebt w s
  pub payable : IsPayable w s paid

abbrev pub IsLegalAct : WorldType → State → Act → Type 0
IsLegalAct w s (Added c x o) = MayAdd w s c x o
IsLegalAct w s (Met c x) = HasVertex s c x
IsLegalAct w s (Missed x) = MayMiss w s x
IsLegalAct w s (Spent x) = MaySpend w s x
IsLegalAct w s (Drew c a t) = MayDraw w s c a t
IsLegalAct w s (Saw c a t) = HasArrow s c a t
IsLegalAct w s (Blank c a) = MayBlank w s c a
IsLegalAct w s Owed = ⊤
IsLegalAct w s (Settled paid) = MaySettle w s paid
IsLegalAct w s (Tally n) = n ≡ s.debts

-- each event is legal in the state of the events before it
abbrev pub LegalFrom : WorldType → State → List Event → Type 0
LegalFrom w s [] = ⊤
LegalFrom w s (e ∷ es) = IsLegalAct w s e.act × LegalFrom w (after s e.act) es

unfoldable pub IsLegal : WorldType → List Event → Type 0
IsLegal w h = LegalFrom w empty_state h

-- whose event it is
abbrev pub caller_of : Event → ℕ
caller_of e = e.caller

-- the events of one caller, in their order, and the events of all others
abbrev pub calls : List Event → ℕ → List Event
calls h n = seats_calls caller_of h n

abbrev pub others : ℕ → List Event → List Event
others n h = filter (λ (e : Event). not (e.caller == n)) h

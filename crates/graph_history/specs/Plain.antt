-- A desk over lists in memory.
use Rattle.std.specs.Prelude.{ℕ, ◌+◌, ◌*◌, ◌<◌, ◌≤◌, ◌≡◌, ◌⊎◌, true, nat_eq, ⊤, List, [], ◌∷◌, ◌++◌, length, slice_get, slice_index, Contains}
use Rattle.std.specs.List.{IsDistinct}
use Rattle.crystal_cartan.specs.declared.types.Arrow.{Arrow}
use Rattle.tensor_words.specs.Operators.{IsArrow}
use Rattle.tensor_words.specs.Worlds.{WorldType, IsWorld}
use Rattle.graph_history.specs.declared.event.Origin.{Origin}
use Rattle.graph_history.specs.declared.event.Act.{Act}
use Rattle.graph_history.specs.declared.event.Act.TheVariants.{Added, Met, Missed, Spent, Drew, Saw, Blank, Owed, Settled, Tally}
use Rattle.graph_history.specs.declared.event.Event.{Event}
use Rattle.graph_history.specs.declared.answer.Added.{Added as AddedAnswer}
use Rattle.graph_history.specs.declared.answer.Added.TheVariants.{New, Old, Full}
use Rattle.graph_history.specs.declared.answer.Draw.{Draw}
use Rattle.graph_history.specs.History.{State, state_of, vertex_at, target_at, HasVertex, HasSome, IsWhole, IsLegal, others}
use Rattle.graph_history.specs.ArrowRows.{edge_place, edge_word}
use Rattle.graph_history.specs.Desks.{by, unpaid_then, Standing, Draws}

-- a desk over lists in memory, as contracts see it
pub record PlainValue : Type 0 where
  pub world : WorldType
  pub caller : ℕ
  pub front : List Event
  pub room : ℕ

-- the unpaid cells after a list of events, whoever the callers are
abbrev pub unpaid_from : List ℕ → List Event → List ℕ
unpaid_from cells [] = cells
unpaid_from cells (e ∷ es) = unpaid_from (unpaid_then cells e.act) es

abbrev pub unpaid_of : List Event → List ℕ
unpaid_of h = unpaid_from [] h

-- its callers follow each other, so that all unpaid cells are the desk's; its bond is the events of all other callers
abbrev pub standing_of : PlainValue → Standing (List Event)
standing_of d = record {
  world = d.world;
  caller = d.caller;
  front = d.front;
  room = d.room;
  bond = others d.caller d.front;
  unpaid = unpaid_of d.front;
  alone = true;
}

-- the codes stand in the order of their cells, and each arrow of each vertex has its word
pub record KeepsState (w : WorldType) (codes edges : List ℕ) (s : State) : Type 0 where
  pub count : length s.vertices ≡ length codes
  pub fits : length codes ≤ w.cells
  pub vertices : (c : ℕ) → vertex_at s.vertices c ≡ slice_get codes c
  pub places : length edges ≡ length codes * (2 * w.space.cartan.rank)
  pub drawn : (c : ℕ) (a : Arrow) → c < length codes → IsArrow w.space a →
      slice_index edges (edge_place w.space.cartan.rank c a) ≡ edge_word (target_at s.drawn c a)

-- each debt is for one of these cells, and each vertex that is not whole is at one of them
pub record IsOwing (w : WorldType) (s : State) (cells : List ℕ) : Type 0 where
  pub counted : s.debts ≡ length cells
  pub once : IsDistinct nat_eq cells
  pub there : (c : ℕ) → Contains cells c → HasSome s c
  pub covered : (c x : ℕ) → HasVertex s c x → IsWhole w s c ⊎ Contains cells c

-- the lists and the number are those of a legal history, and there is memory for a code and a row of words in each cell
pub record IsDesk (w : WorldType) (codes : List ℕ) (spare : ℕ) (edges : List ℕ) (capacity owed : ℕ) (h : List Event) : Type 0 where
  pub world : IsWorld w
  pub legal : IsLegal w h
  pub kept : KeepsState w codes edges (state_of h)
  pub debts : (state_of h).debts ≡ owed
  pub owing : IsOwing w (state_of h) (unpaid_of h)
  pub memory : w.cells ≤ length codes + spare
  pub rows : w.cells * (2 * w.space.cartan.rank) ≤ capacity

-- an act that changes nothing in the graph, and no debt
abbrev pub IsQuiet : Act → Type 0
IsQuiet (Added c x o) = ⊥
IsQuiet (Met c x) = ⊤
IsQuiet (Missed x) = ⊤
IsQuiet (Spent x) = ⊤
IsQuiet (Drew c a t) = ⊥
IsQuiet (Saw c a t) = ⊤
IsQuiet (Blank c a) = ⊤
IsQuiet Owed = ⊥
IsQuiet (Settled paid) = ⊥
IsQuiet (Tally n) = ⊤

-- the acts by which such a desk puts in a word: it owes where the word is new, and there alone
abbrev pub entry_acts : ℕ → Origin → AddedAnswer → List Act
entry_acts x o (New c) = Owed ∷ Added c x o ∷ []
entry_acts x o (Old c) = Met c x ∷ []
entry_acts x o Full = Spent x ∷ []

-- the desk with further acts of its caller in the front
abbrev pub with_acts : PlainValue → List Act → PlainValue
with_acts d acts = record d { front = d.front ++ by d.caller acts }

-- an arrow was drawn, or seen, and nothing but the front changed
pub record IsDrawing (old new : PlainValue) (c : ℕ) (a : Arrow) (answer : Draw) : Type 0 where
  pub code : ℕ
  pub there : HasVertex (state_of old.front) c code
  pub acts : List Act
  pub draws : Draws old.world.space c a code answer acts
  pub is : new ≡ with_acts old acts
  pub legal : IsLegal new.world new.front

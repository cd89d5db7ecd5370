-- The growing graph of wide words: its world, and its legal events. Events, states and calls are those of any growing graph,
-- and the code of an event is the number of a pair.
use Rattle.std.specs.Prelude.{ℕ, ◌+◌, ◌<◌, ◌≤◌, ◌≡◌, ⊤, List, [], ◌∷◌, map, length, None, All}
use Rattle.tensor_words.specs.Spaces.{size}
use Rattle.tensor_words.specs.Worlds.{WorldType, most_cells}
use Rattle.graph_history.specs.declared.event.Origin.{Origin}
use Rattle.graph_history.specs.declared.event.Act.{Act}
use Rattle.graph_history.specs.declared.event.Act.TheVariants.{Added, Met, Missed, Spent, Drew, Saw, Blank, Owed, Settled, Tally}
use Rattle.graph_history.specs.declared.event.Event.{Event}
use Rattle.graph_history.specs.History.{State, empty_state, after, vertex_at, HasVertex, HasArrow, IsNew, IsOrigin, MayMiss, MayDraw, MayBlank}
use Rattle.wide_words.specs.declared.spaces.WideCode.{WideCode}
use Rattle.wide_words.specs.WideSpaces.{WideSpaceType, IsWideSpace, whole, IsWide, number}

-- a wide space, the number of words that a graph may have, and the pairs of the words that it grows from
pub record WideWorldType : Type 0 where
  pub space : WideSpaceType
  pub capacity : ℕ
  pub roots : List WideCode

-- the world is one of those that are taken
pub record IsWideWorld (w : WideWorldType) : Type 0 where
  pub space : IsWideSpace w.space
  pub some : 1 ≤ w.capacity
  pub few : w.capacity ≤ most_cells
  pub rooted : 0 < length w.roots
  pub words : All (IsWide w.space) w.roots

-- how many more cells than its capacity a graph has
abbrev pub spare_cells : ℕ
spare_cells = 32

-- the world of the whole space with the cells of the graph, and that with as many cells as its capacity, against which the
-- reached words are counted
abbrev pub flat : WideWorldType → WorldType
flat w = record { space = whole w.space; cells = w.capacity + spare_cells; roots = map (number w.space) w.roots }

abbrev pub counted : WideWorldType → WorldType
counted w = record { space = whole w.space; cells = w.capacity; roots = map (number w.space) w.roots }

-- when each act is legal
pub record MayAddWide (w : WideWorldType) (s : State) (c x : ℕ) (o : Origin) : Type 0 where
  pub word : x < size (whole w.space)
  pub fresh : IsNew s x
  pub cell : c < w.capacity + spare_cells
  pub free : vertex_at s.vertices c ≡ None
  pub origin : IsOrigin (flat w) s x o

pub record MaySpendWide (w : WideWorldType) (s : State) (x : ℕ) : Type 0 where
  pub fresh : IsNew s x
  pub full : w.capacity ≤ length s.vertices
  pub origin : Origin
  pub cause : IsOrigin (flat w) s x origin

-- a wide graph has no debts
abbrev pub IsWideAct : WideWorldType → State → Act → Type 0
IsWideAct w s (Added c x o) = MayAddWide w s c x o
IsWideAct w s (Met c x) = HasVertex s c x
IsWideAct w s (Missed x) = MayMiss (flat w) s x
IsWideAct w s (Spent x) = MaySpendWide w s x
IsWideAct w s (Drew c a t) = MayDraw (flat w) s c a t
IsWideAct w s (Saw c a t) = HasArrow s c a t
IsWideAct w s (Blank c a) = MayBlank (flat w) s c a
IsWideAct w s Owed = ⊥
IsWideAct w s (Settled paid) = ⊥
IsWideAct w s (Tally n) = ⊥

-- each event is legal in the state of the events before it
abbrev pub WideLegalFrom : WideWorldType → State → List Event → Type 0
WideLegalFrom w s [] = ⊤
WideLegalFrom w s (e ∷ es) = IsWideAct w s e.act × WideLegalFrom w (after s e.act) es

unfoldable pub IsWideLegal : WideWorldType → List Event → Type 0
IsWideLegal w h = WideLegalFrom w empty_state h

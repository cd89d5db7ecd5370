-- What is done at one seat: vertices are put in, and arrows are drawn.
use Rattle.std.specs.Prelude.{ℕ, ◌≡◌, ⊤, Bool, List, ◌++◌, map, is_some, None, Result, Ok, Err, All}
use Rattle.crystal_cartan.specs.declared.types.Arrow.{Arrow}
use Rattle.tensor_words.specs.Operators.{op}
use Rattle.tensor_words.specs.Reach.{Outnumber}
use Rattle.graph_history.specs.declared.event.Event.{Event}
use Rattle.graph_history.specs.History.{state_of, HasVertex, IsDrawn, IsWhole}
use Rattle.wide_words.specs.WideSpaces.{WideSpaceType, whole, IsWide, number}
use Rattle.wide_words.specs.WideHistory.{WideWorldType, flat, counted}
use Rattle.wide_words.specs.WideCounts.{arrows_at}
use Rattle.shared_seats.specs.Seats.{IsPrefix}
use Rattle.wide_rule.specs.Rule.{IsKnown}
use Rattle.wide_rule.specs.Values.{WideGraphValue, WideSeatValue, Belongs}
use Rattle.wide_growth.specs.declared.drawing.OpenVertex.{OpenVertex}
use Rattle.wide_growth.specs.declared.drawing.Stop.{Stop}
use Rattle.wide_growth.specs.declared.drawing.Stop.TheVariants.{Full, NoMemory}

-- the cell has the word of the pair
pub record IsVertex (w : WideWorldType) (h : List Event) (v : OpenVertex) : Type 0 where
  pub word : IsWide w.space v.code
  pub there : HasVertex (state_of h) v.cell (number w.space v.code)

abbrev pub cells_in : List OpenVertex → List ℕ
cells_in vs = map (λ (v : OpenVertex). v.cell) vs

-- the number of lowering arrows that begin at a vertex
abbrev pub arrows_of : WideSpaceType → OpenVertex → ℕ
arrows_of s v = arrows_at (whole s) (number s v.code)

-- all arrows of these vertices are drawn
abbrev pub AreWhole : WideWorldType → List Event → List OpenVertex → Type 0
AreWhole w h vs = All (λ (v : OpenVertex). IsWhole (flat w) (state_of h) v.cell) vs

-- growth can go on at this seat
pub record IsReady (g : WideGraphValue) (s : WideSeatValue) : Type 0 where
  pub belongs : Belongs s g
  pub idle : s.view.dues.pending ≡ None

-- the seat went on: it put in the vertices that the list has more now, and owes their cells too
pub record GoesOn (old now : WideSeatValue) (before after : List OpenVertex) : Type 0 where
  pub added : List OpenVertex
  pub list : after ≡ before ++ added
  pub table : now.table ≡ old.table
  pub world : now.view.world ≡ old.view.world
  pub stake : now.view.stake ≡ old.view.stake
  pub left : now.view.left ≡ old.view.left
  pub known : IsKnown now.view
  pub front : IsPrefix old.view.front now.view.front
  pub owed : now.view.dues.owed ≡ old.view.dues.owed ++ cells_in added
  pub idle : now.view.dues.pending ≡ None
  pub vertices : All (IsVertex old.view.world now.view.front) added

-- an arrow of a vertex was drawn, and whether it leads to a word
pub record IsArrowDrawn (old now : WideSeatValue) (before after : List OpenVertex) (v : OpenVertex) (a : Arrow) (leads : Bool) : Type 0 where
  pub goes : GoesOn old now before after
  pub drawn : IsDrawn (state_of now.view.front) v.cell a
  pub counted : leads ≡ is_some (op (whole old.view.world.space) a (number old.view.world.space v.code))

-- why growth stopped: the reached words outnumber the capacity, or there was no memory
abbrev pub IsStop : WideWorldType → Stop → Type 0
IsStop w Full = Outnumber (counted w)
IsStop w NoMemory = ⊤

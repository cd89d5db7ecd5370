-- Laws of legal histories.
use Rattle.std.specs.Prelude.{ℕ, ◌≡◌, ◌≤◌, ◌↔◌, List, ◌∷◌, ◌++◌, length, slice_get, Option, Some, Contains}
use Rattle.std.specs.List.Sorted.{IsStrictlyIncreasing}
use Rattle.crystal_cartan.specs.declared.types.Arrow.{Arrow}
use Rattle.tensor_words.specs.Worlds.{WorldType}
use Rattle.tensor_words.specs.Reach.{IsPath, walk, IsComponentList, Outnumber}
use Rattle.graph_history.specs.declared.event.Act.TheVariants.{Spent, Tally}
use Rattle.graph_history.specs.declared.event.Event.{Event}
use Rattle.graph_history.specs.History.{Vertex, DrawnArrow, State, state_of, HasVertex, HasCode, HasArrow, IsTarget, IsLegal, IsClosed, unfinished}

-- no two vertices share a cell or a code, each arrow of a cell is drawn at most once, and each drawn arrow's target is
-- the operator's
pub record IsSimple (w : WorldType) (s : State) : Type 0 where
  pub vertex : (k : ℕ) (v : Vertex) → slice_get s.vertices k ≡ Some v → HasVertex s v.cell v.code
  pub cells : (i j : ℕ) (u v : Vertex) → slice_get s.vertices i ≡ Some u → slice_get s.vertices j ≡ Some v → u.cell ≡ v.cell → i ≡ j
  pub codes : (i j : ℕ) (u v : Vertex) → slice_get s.vertices i ≡ Some u → slice_get s.vertices j ≡ Some v → u.code ≡ v.code → i ≡ j
  pub drawn : (k : ℕ) (d : DrawnArrow) → slice_get s.drawn k ≡ Some d → HasArrow s d.cell d.arrow d.to
  pub arrows : (i j : ℕ) (d e : DrawnArrow) → slice_get s.drawn i ≡ Some d → slice_get s.drawn j ≡ Some e → d.cell ≡ e.cell → d.arrow ≡ e.arrow → i ≡ j
  pub targets : (c : ℕ) (a : Arrow) (t : Option ℕ) → HasArrow s c a t → (y : ℕ) × HasVertex s c y × IsTarget w s a y t

abbrev pub StatesAreSimple : Type 0
StatesAreSimple = (w : WorldType) (h : List Event) → IsLegal w h → IsSimple w (state_of h)

-- what stands in the state of a prefix stands in the state of every longer history
pub record Stays (s t : State) : Type 0 where
  pub vertices : (c x : ℕ) → HasVertex s c x → HasVertex t c x
  pub arrows : (c : ℕ) (a : Arrow) (to : Option ℕ) → HasArrow s c a to → HasArrow t c a to

abbrev pub StatesStay : Type 0
StatesStay = (f g : List Event) → Stays (state_of f) (state_of (f ++ g))

-- the word is reached from one of those roots that are vertices
pub record IsReachedIn (w : WorldType) (s : State) (x : ℕ) : Type 0 where
  pub root : ℕ
  pub rooted : Contains w.roots root
  pub there : HasCode s root
  pub path : List Arrow
  pub arrows : IsPath w.space path
  pub leads : walk w.space path root ≡ Some x

abbrev pub VerticesAreReached : Type 0
VerticesAreReached = (w : WorldType) (h : List Event) (x : ℕ) → IsLegal w h → HasCode (state_of h) x → IsReachedIn w (state_of h) x

-- the vertices of a closed graph are exactly the words reached from those roots that are vertices
abbrev pub ClosedIsReached : Type 0
ClosedIsReached = (w : WorldType) (h : List Event) (x : ℕ) → IsLegal w h → IsClosed w (state_of h) → HasCode (state_of h) x ↔ IsReachedIn w (state_of h) x

-- all roots are vertices
abbrev pub HasRoots : WorldType → State → Type 0
HasRoots w s = (x : ℕ) → Contains w.roots x → HasCode s x

-- the codes of the vertices, ascending
pub record IsCodeList (s : State) (codes : List ℕ) : Type 0 where
  pub ascending : IsStrictlyIncreasing codes
  pub vertices : (x : ℕ) → Contains codes x → HasCode s x
  pub all : (x : ℕ) → HasCode s x → Contains codes x

-- where all roots are vertices of a closed graph too, the codes ascending are the component list
abbrev pub ClosedIsComponents : Type 0
ClosedIsComponents =
    (w : WorldType) (h : List Event) (codes : List ℕ) →
    IsLegal w h → IsClosed w (state_of h) → HasRoots w (state_of h) → IsCodeList (state_of h) codes → IsComponentList w codes

-- where a history has a `Spent`, the reached words outnumber the cells
abbrev pub SpentOutnumbers : Type 0
SpentOutnumbers =
    (w : WorldType) (h : List Event) (n x : ℕ) → IsLegal w h → Contains h (record { caller = n; act = Spent x }) → Outnumber w

-- no more vertices than cells
abbrev pub VerticesFit : Type 0
VerticesFit = (w : WorldType) (h : List Event) → IsLegal w h → length (state_of h).vertices ≤ w.cells

-- where every cell is taken no vertex comes any more
abbrev pub FullStays : Type 0
FullStays =
    (w : WorldType) (f g : List Event) → IsLegal w (f ++ g) → length (state_of f).vertices ≡ w.cells → (state_of (f ++ g)).vertices ≡ (state_of f).vertices

-- where a history is closed and has all roots, the reached words do not outnumber the cells
abbrev pub ClosedFits : Type 0
ClosedFits = (w : WorldType) (h : List Event) → IsLegal w h → IsClosed w (state_of h) → HasRoots w (state_of h) → Outnumber w → ⊥

-- the debts are at least the vertices that are not whole
abbrev pub DebtsCover : Type 0
DebtsCover = (w : WorldType) (h : List Event) → IsLegal w h → unfinished w (state_of h) ≤ (state_of h).debts

-- a tally of 0 stands only where the graph is closed
abbrev pub TallyCloses : Type 0
TallyCloses =
    (w : WorldType) (before after : List Event) (n : ℕ) → IsLegal w (before ++ record { caller = n; act = Tally 0 } ∷ after) → IsClosed w (state_of before)

-- Laws of wide words and of the legal histories of their graphs.
use Rattle.std.specs.Prelude.{ℕ, ◌<◌, ◌≤◌, ◌≡◌, ◌↔◌, ◌⊎◌, List, ◌++◌, length, sum_by, Contains}
use Rattle.tensor_words.specs.Spaces.{size}
use Rattle.tensor_words.specs.Codes.{word_of}
use Rattle.tensor_words.specs.Worlds.{WorldType}
use Rattle.tensor_words.specs.Reach.{IsComponentList, Outnumber}
use Rattle.graph_history.specs.declared.event.Act.TheVariants.{Spent}
use Rattle.graph_history.specs.declared.event.Event.{Event}
use Rattle.graph_history.specs.History.{Vertex, state_of, HasCode, IsClosed}
use Rattle.graph_history.specs.Laws.{IsSimple, IsReachedIn, HasRoots, IsCodeList}
use Rattle.wide_words.specs.declared.spaces.WideCode.{WideCode}
use Rattle.wide_words.specs.WideSpaces.{WideSpaceType, IsWideSpace, whole, IsWide, number}
use Rattle.wide_words.specs.WideHistory.{WideWorldType, flat, counted, IsWideLegal}
use Rattle.wide_words.specs.WideCounts.{arrows_at, AreReached}

-- just one pair of words has this number
pub record IsOnePair (s : WideSpaceType) (x : ℕ) : Type 0 where
  pub pair : WideCode
  pub word : IsWide s pair
  pub is : number s pair ≡ x
  pub only : (c : WideCode) → IsWide s c → number s c ≡ x → c ≡ pair

-- the pairs of words and the codes of the whole space correspond one to one
abbrev pub PairsCorrespond : Type 0
PairsCorrespond =
    (s : WideSpaceType) → IsWideSpace s →
    ((c : WideCode) → IsWide s c → number s c < size (whole s))
    × ((x : ℕ) → x < size (whole s) → IsOnePair s x)

-- ascending numbers are pairs that ascend by the high half, and then by the low one
abbrev pub PairsAscend : Type 0
PairsAscend =
    (s : WideSpaceType) (c d : WideCode) → IsWide s c → IsWide s d →
    (number s c < number s d) ↔ ((c.high < d.high) ⊎ ((c.high ≡ d.high) × (c.low < d.low)))

-- the word of a pair's number is the word of the high half followed by that of the low half
abbrev pub PairsAreWords : Type 0
PairsAreWords =
    (s : WideSpaceType) (c : WideCode) → IsWideSpace s → IsWide s c →
    word_of (whole s) (number s c) ≡ word_of s.high c.high ++ word_of s.low c.low

-- no two vertices share a cell or a code, each arrow of a cell is drawn at most once, and leads to what its operator gives
abbrev pub WideStatesAreSimple : Type 0
WideStatesAreSimple = (w : WideWorldType) (h : List Event) → IsWideLegal w h → IsSimple (flat w) (state_of h)

-- the code of each vertex is the number of just one pair
abbrev pub VerticesArePairs : Type 0
VerticesArePairs =
    (w : WideWorldType) (h : List Event) (x : ℕ) → IsWideSpace w.space → IsWideLegal w h → HasCode (state_of h) x → IsOnePair w.space x

-- each vertex is reached from those roots that are vertices
abbrev pub WideVerticesAreReached : Type 0
WideVerticesAreReached =
    (w : WideWorldType) (h : List Event) (x : ℕ) → IsWideLegal w h → HasCode (state_of h) x → IsReachedIn (flat w) (state_of h) x

-- the vertices of a closed graph are exactly the words reached from those roots that are vertices
abbrev pub WideClosedIsReached : Type 0
WideClosedIsReached =
    (w : WideWorldType) (h : List Event) (x : ℕ) → IsWideLegal w h → IsClosed (flat w) (state_of h) →
    HasCode (state_of h) x ↔ IsReachedIn (flat w) (state_of h) x

-- where all roots are vertices of a closed graph too, the codes ascending are the component list
abbrev pub WideClosedIsComponents : Type 0
WideClosedIsComponents =
    (w : WideWorldType) (h : List Event) (codes : List ℕ) → IsWideLegal w h → IsClosed (flat w) (state_of h) → HasRoots (flat w) (state_of h) →
    IsCodeList (state_of h) codes → IsComponentList (flat w) codes

-- where a history has a `Spent`, the reached words outnumber the capacity
abbrev pub WideSpentOutnumbers : Type 0
WideSpentOutnumbers =
    (w : WideWorldType) (h : List Event) (n x : ℕ) → IsWideLegal w h → Contains h (record { caller = n; act = Spent x }) → Outnumber (counted w)

-- no more vertices than cells
abbrev pub WideVerticesFit : Type 0
WideVerticesFit = (w : WideWorldType) (h : List Event) → IsWideLegal w h → length (state_of h).vertices ≤ (flat w).cells

-- where there are as many vertices as the capacity, there are as many in every longer history, and more than that stay more
abbrev pub WideFullStays : Type 0
WideFullStays = (f g : List Event) → length (state_of f).vertices ≤ length (state_of (f ++ g)).vertices

-- in a closed graph that has all roots the reached words outnumber the capacity exactly where the vertices do
abbrev pub WideClosedFits : Type 0
WideClosedFits =
    (w : WideWorldType) (h : List Event) → IsWideLegal w h → IsClosed (flat w) (state_of h) → HasRoots (flat w) (state_of h) →
    Outnumber (counted w) ↔ (w.capacity < length (state_of h).vertices)

-- the vertices of a closed graph that has all roots are the reached words, each once, with their lowering arrows
abbrev pub WideClosedIsCounted : Type 0
WideClosedIsCounted =
    (w : WideWorldType) (h : List Event) → IsWideLegal w h → IsClosed (flat w) (state_of h) → HasRoots (flat w) (state_of h) →
    AreReached (counted w) (length (state_of h).vertices) (sum_by (λ (v : Vertex). arrows_at (whole w.space) v.code) (state_of h).vertices)

-- a world determines how many words are reached, and how many arrows join them
abbrev pub CountsAreUnique : Type 0
CountsAreUnique =
    (w : WorldType) (v e v' e' : ℕ) → AreReached w v e → AreReached w v' e' → (v ≡ v') × (e ≡ e')

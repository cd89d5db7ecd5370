-- What the calls of a desk tell.
use Rattle.std.specs.Prelude.{ℕ, ◌+◌, ◌≤◌, ◌≡◌, Bool, not, nat_eq, List, [], ◌∷◌, ◌++◌, filter, Option, Some, None}
use Rattle.crystal_cartan.specs.declared.types.Arrow.{Arrow}
use Rattle.tensor_words.specs.Operators.{op}
use Rattle.tensor_words.specs.Spaces.{SpaceType}
use Rattle.tensor_words.specs.Worlds.{WorldType}
use Rattle.graph_history.specs.declared.event.Origin.{Origin}
use Rattle.graph_history.specs.declared.event.Origin.TheVariants.{By}
use Rattle.graph_history.specs.declared.event.Act.{Act}
use Rattle.graph_history.specs.declared.event.Act.TheVariants.{Added, Met, Missed, Spent, Drew, Saw, Blank, Owed, Settled}
use Rattle.graph_history.specs.declared.event.Event.{Event}
use Rattle.graph_history.specs.declared.answer.Added.{Added as AddedAnswer}
use Rattle.graph_history.specs.declared.answer.Added.TheVariants.{New, Old, Full}
use Rattle.graph_history.specs.declared.answer.Look.{Look}
use Rattle.graph_history.specs.declared.answer.Look.TheVariants.{Blank as LooksBlank, Zero as LooksZero, To as LooksTo}
use Rattle.graph_history.specs.declared.answer.Draw.{Draw}
use Rattle.graph_history.specs.declared.answer.Draw.TheVariants.{Zero as DrawsZero, To as DrawsTo, Full as DrawsFull}
use Rattle.graph_history.specs.History.{state_of, HasVertex, IsLegal, calls}

-- the cells that acts put in
abbrev pub added_by : Act → List ℕ
added_by (Added c x o) = c ∷ []
added_by _ = []

abbrev pub added_cells : List Act → List ℕ
added_cells [] = []
added_cells (a ∷ acts) = added_by a ++ added_cells acts

-- these acts by one caller
abbrev pub by : ℕ → List Act → List Event
by n [] = []
by n (a ∷ acts) = record { caller = n; act = a } ∷ by n acts

-- a front grew: it is legal, begins with the one before, and has of this caller just these further acts
pub record Grows (w : WorldType) (n : ℕ) (old new : List Event) (acts : List Act) : Type 0 where
  pub more : List Event
  pub is : new ≡ old ++ more
  pub own : calls more n ≡ by n acts
  pub legal : IsLegal w new

-- the last event is this caller's
abbrev pub EndsWith : ℕ → List Event → Type 0
EndsWith n h = (front : List Event) × (act : Act) × (h ≡ front ++ record { caller = n; act = act } ∷ [])

-- a list of cells without one of them
abbrev pub without : ℕ → List ℕ → List ℕ
without c cells = filter (λ (d : ℕ). not (nat_eq c d)) cells

-- the unpaid cells after an act, and after several: a cell that is put in is unpaid until it is paid for
abbrev pub unpaid_then : List ℕ → Act → List ℕ
unpaid_then cells (Added c x o) = cells ++ c ∷ []
unpaid_then cells (Settled (Some c)) = without c cells
unpaid_then cells _ = cells

abbrev pub unpaid_by : List ℕ → List Act → List ℕ
unpaid_by cells [] = cells
unpaid_by cells (a ∷ acts) = unpaid_by (unpaid_then cells a) acts

-- what contracts see of a desk: its world, its caller's number, the front, the room for further adds and draws, a bond,
-- the unpaid cells, and whether the desk is alone, so that every debt is for one of its unpaid cells
pub record Standing (Bond : Type 0) : Type 0 where
  pub world : WorldType
  pub caller : ℕ
  pub front : List Event
  pub room : ℕ
  pub bond : Bond
  pub unpaid : List ℕ
  pub alone : Bool

-- the caller of a desk went on by these acts, and took at most so many places of its room
pub record Goes {Bond : Type 0} (old new : Standing Bond) (places : ℕ) (acts : List Act) : Type 0 where
  pub world : new.world ≡ old.world
  pub caller : new.caller ≡ old.caller
  pub bond : new.bond ≡ old.bond
  pub alone : new.alone ≡ old.alone
  pub least : new.room ≤ old.room
  pub most : old.room ≤ new.room + places
  pub grows : Grows old.world old.caller old.front new.front acts
  pub unpaid : new.unpaid ≡ unpaid_by old.unpaid acts

-- so it went on in one call, and the last event of the front is the caller's
pub record Does {Bond : Type 0} (old new : Standing Bond) (places : ℕ) (acts : List Act) : Type 0 where
  pub goes : Goes old new places acts
  pub last : EndsWith old.caller new.front

-- the acts that answers tell of
abbrev pub find_acts : ℕ → Option ℕ → List Act
find_acts x (Some c) = Met c x ∷ []
find_acts x None = Missed x ∷ []

abbrev pub look_acts : ℕ → Arrow → Look → List Act
look_acts c a LooksBlank = Blank c a ∷ []
look_acts c a LooksZero = Saw c a None ∷ []
look_acts c a (LooksTo t) = Saw c a (Some t) ∷ []

-- an entry: the acts by which the word with the code x is put in from an origin. It is there already; it is not there,
-- and every cell is taken; or a debt is owed for it first, which is settled again where the word is not new
pub data IsEntry (x : ℕ) (o : Origin) : AddedAnswer → List Act → Type 0 where
  met : (c : ℕ) → IsEntry x o (Old c) (Met c x ∷ [])
  spent : IsEntry x o Full (Spent x ∷ [])
  added : (c : ℕ) → IsEntry x o (New c) (Owed ∷ Added c x o ∷ [])
  owed_met : (c : ℕ) → IsEntry x o (Old c) (Owed ∷ Met c x ∷ Settled None ∷ [])
  owed_spent : IsEntry x o Full (Owed ∷ Spent x ∷ Settled None ∷ [])

-- the cell of the word, and the unpaid cells after it was put in
abbrev pub cell_of : AddedAnswer → Option ℕ
cell_of (New c) = Some c
cell_of (Old c) = Some c
cell_of Full = None

abbrev pub unpaid_after : AddedAnswer → List ℕ → List ℕ
unpaid_after (New c) cells = cells ++ c ∷ []
unpaid_after (Old c) cells = cells
unpaid_after Full cells = cells

-- the acts by which an arrow at the cell c is drawn, y being the code there: it was drawn already; its operator gives
-- zero; or its operator's word is put in first, and there may be no cell for it
pub data Draws (s : SpaceType) (c : ℕ) (a : Arrow) (y : ℕ) : Draw → List Act → Type 0 where
  saw_zero : Draws s c a y DrawsZero (Saw c a None ∷ [])
  saw : (t : ℕ) → Draws s c a y (DrawsTo t) (Saw c a (Some t) ∷ [])
  drew_zero : op s a y ≡ None → Draws s c a y DrawsZero (Drew c a None ∷ [])
  entered_drew : (t x : ℕ) (r : AddedAnswer) (acts : List Act) → op s a y ≡ Some x → cell_of r ≡ Some t → IsEntry x (By c a) r acts
      → Draws s c a y (DrawsTo t) (acts ++ Drew c a (Some t) ∷ [])
  entered_saw : (t x : ℕ) (r : AddedAnswer) (acts : List Act) → op s a y ≡ Some x → cell_of r ≡ Some t → IsEntry x (By c a) r acts
      → Draws s c a y (DrawsTo t) (acts ++ Saw c a (Some t) ∷ [])
  full : (x : ℕ) (acts : List Act) → op s a y ≡ Some x → IsEntry x (By c a) Full acts → Draws s c a y DrawsFull acts

-- what an add tells: an entry of the code x
pub record Entering {Bond : Type 0} (old new : Standing Bond) (x : ℕ) (o : Origin) (answer : AddedAnswer) : Type 0 where
  pub acts : List Act
  pub entry : IsEntry x o answer acts
  pub does : Does old new 1 acts

-- what a draw tells: the vertex at its cell, and its acts
pub record Drawing {Bond : Type 0} (old new : Standing Bond) (c : ℕ) (a : Arrow) (answer : Draw) : Type 0 where
  pub code : ℕ
  pub there : HasVertex (state_of old.front) c code
  pub acts : List Act
  pub draws : Draws old.world.space c a code answer acts
  pub does : Does old new 1 acts

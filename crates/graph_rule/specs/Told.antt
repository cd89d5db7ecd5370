-- What each step on the table tells its seat.
use Rattle.std.specs.Prelude.{ℕ, ◌+◌, ◌≤◌, ◌≡◌, ◌≢◌, ◌==◌, Bool, true, false, if◌then◌else◌, List, [], ◌∷◌, ◌++◌, Option, Some, None}
use Rattle.crystal_cartan.specs.declared.types.Arrow.{Arrow}
use Rattle.atomic_table.specs.Table.{Me, Step}
use Rattle.tensor_words.specs.Worlds.{WorldType}
use Rattle.graph_history.specs.declared.event.Origin.{Origin}
use Rattle.graph_history.specs.declared.event.Act.{Act}
use Rattle.graph_history.specs.declared.event.Act.TheVariants.{Added, Met, Missed, Spent, Drew, Saw, Blank, Owed, Settled, Tally}
use Rattle.graph_history.specs.declared.event.Event.{Event}
use Rattle.graph_history.specs.Views.{View}
use Rattle.graph_history.specs.declared.view.Dues.{Dues}
use Rattle.graph_history.specs.History.{state_of, vertex_at, target_at, calls}
use Rattle.graph_history.specs.ArrowRows.{edge_word}
use Rattle.graph_history.specs.Desks.{by, without}
use Rattle.shared_seats.specs.Seats.{went}
use Rattle.graph_rule.specs.Layout.{code_word, is_last}
use Rattle.graph_rule.specs.Rule.{whole, IsKnown, IsComplete}

-- the view after own acts at the end of the history h
abbrev pub advanced : View → List Event → List Act → Dues → View
advanced v h acts d = went v h (by v.number acts) d

-- one step: the front took in what others did, then these own acts were made; with the whole stake nobody else is there
-- to do anything
pub record Advances (v w : View) (acts : List Act) (d : Dues) : Type 0 where
  pub between : List Event
  pub is : w ≡ advanced v (v.front ++ between) acts d
  pub quiet : calls between v.number ≡ []
  pub alone : v.stake ≡ whole → between ≡ []
  pub known : IsKnown w
  pub complete : IsComplete w

-- steps without an event: the front took in what others did
pub record Watched (v w : View) : Type 0 where
  pub more : List Event
  pub is : w ≡ record v { front = v.front ++ more }
  pub quiet : calls more v.number ≡ []
  pub alone : v.stake ≡ whole → more ≡ []

-- several steps: others may have acted between the own acts
pub record Went (v w : View) (acts : List Act) (d : Dues) : Type 0 where
  pub more : List Event
  pub is : w ≡ record v { calls = v.calls ++ by v.number acts; front = v.front ++ more; dues = d }
  pub own : calls more v.number ≡ by v.number acts
  pub alone : v.stake ≡ whole → more ≡ by v.number acts
  pub known : IsKnown w
  pub complete : IsComplete w

-- the word that a cell has by the front
abbrev pub cell_word : View → ℕ → ℕ
cell_word v c = code_word (vertex_at (state_of v.front).vertices c)

-- the acts of a load in search, by the word n that was found: it is 0, it is the word that is looked for, or it is another
-- one and the cell is the last of the path
abbrev pub probed : ℕ → ℕ → Bool → List Act → List Act → List Act → List Act
probed n sought last empty same other = if n == 0 then empty else (if n == sought then same else (if last then other else []))

-- the act of a load of the cell c in search of the code x; the search ends at an empty cell, and at the last cell of the path
abbrev pub sought_acts : WorldType → ℕ → ℕ → ℕ → List Act
sought_acts w c x n = probed n (x + 1) (is_last w x c) (Missed x ∷ []) (Met c x ∷ []) (Missed x ∷ [])

-- the same where a cell is looked for that the code may be put into
abbrev pub sought_empty_acts : WorldType → ℕ → ℕ → ℕ → List Act
sought_empty_acts w c x n = probed n (x + 1) (is_last w x c) [] (Met c x ∷ []) (Spent x ∷ [])

-- the act of an exchange of the cell c from 0 to the code x
abbrev pub claimed_acts : ℕ → ℕ → Origin → ℕ → List Act
claimed_acts c x o n = if n == 0 then Added c x o ∷ [] else (if n == x + 1 then Met c x ∷ [] else [])

-- the act of a load of the cell c to see whether it has the code x, by whether it has
abbrev pub confirmed_acts : ℕ → ℕ → Bool → List Act
confirmed_acts c x true = Met c x ∷ []
confirmed_acts c x false = []

-- what is drawn of an arrow by the front: nothing, or its target
abbrev pub target_in : View → ℕ → Arrow → Option (Option ℕ)
target_in v c a = target_at (state_of v.front).drawn c a

-- the act of a load of the word of an arrow, by what is drawn of it
abbrev pub glanced_acts : ℕ → Arrow → Option (Option ℕ) → List Act
glanced_acts c a None = Blank c a ∷ []
glanced_acts c a (Some t) = Saw c a t ∷ []

-- the act of an exchange of that word from not drawn to a target, by whether it drew the arrow; else the arrow was drawn
-- before, and to the same target
abbrev pub drawn_acts : ℕ → Arrow → Option ℕ → Bool → List Act
drawn_acts c a t true = Drew c a t ∷ []
drawn_acts c a t false = Saw c a t ∷ []

-- what a seat owes after a step

-- one debt was pledged; it was taken back
abbrev pub pledged : Dues → Dues
pledged d = record d { pledge = 1 }

abbrev pub unpledged : Dues → Dues
unpledged d = record d { pledge = 0 }

-- the pledge became the debt of a new cell
abbrev pub with_cell : ℕ → Dues → Dues
with_cell c d = record { owed = d.owed ++ c ∷ []; unpaid = d.unpaid ++ c ∷ []; pledge = 0 }

abbrev pub claimed_dues : ℕ → ℕ → Dues → Dues
claimed_dues c n d = if n == 0 then with_cell c d else d

-- a cell was paid
abbrev pub paid : ℕ → Dues → Dues
paid c d = record d { unpaid = without c d.unpaid }

-- what the steps tell, as plays of the table: of the seat before, the word found and the seat after

abbrev pub looked : ℕ → Step Unit → Me Unit View → ℕ → Me Unit View → Type 0
looked c step old n new = (new.1 ≡ old.1) × Advances old.0 new.0 [] old.0.dues × (n ≡ cell_word new.0 c)

abbrev pub sought : ℕ → ℕ → Step Unit → Me Unit View → ℕ → Me Unit View → Type 0
sought c x step old n new =
    (new.1 ≡ old.1) × Advances old.0 new.0 (sought_acts old.0.world c x n) old.0.dues × (n ≡ cell_word new.0 c)

abbrev pub sought_empty : ℕ → ℕ → Step Unit → Me Unit View → ℕ → Me Unit View → Type 0
sought_empty c x step old n new =
    (new.1 ≡ old.1) × Advances old.0 new.0 (sought_empty_acts old.0.world c x n) old.0.dues × (n ≡ cell_word new.0 c)

abbrev pub claimed : ℕ → ℕ → Origin → Step Unit → Me Unit View → ℕ → Me Unit View → Type 0
claimed c x o step old n new =
    (new.1 ≡ old.1) × Advances old.0 new.0 (claimed_acts c x o n) (claimed_dues c n old.0.dues) × (n ≢ 0 → n ≡ cell_word new.0 c)

abbrev pub confirmed : ℕ → ℕ → Step Unit → Me Unit View → ℕ → Me Unit View → Type 0
confirmed c x step old n new =
    (new.1 ≡ old.1) × Advances old.0 new.0 (confirmed_acts c x (n == x + 1)) old.0.dues × (n ≡ cell_word new.0 c)

abbrev pub meets : Step Unit → Me Unit View → ℕ → Me Unit View → Type 0
meets step old n new = (new.1 ≡ old.1) × Advances old.0 new.0 [] old.0.dues

abbrev pub owes : Step Unit → Me Unit View → ℕ → Me Unit View → Type 0
owes step old n new = (new.1 ≡ old.1) × Advances old.0 new.0 (Owed ∷ []) (pledged old.0.dues)

abbrev pub releases : Step Unit → Me Unit View → ℕ → Me Unit View → Type 0
releases step old n new = (new.1 ≡ old.1) × Advances old.0 new.0 (Settled None ∷ []) (unpledged old.0.dues)

abbrev pub pays : ℕ → Step Unit → Me Unit View → ℕ → Me Unit View → Type 0
pays c step old n new = (new.1 ≡ old.1) × Advances old.0 new.0 (Settled (Some c) ∷ []) (paid c old.0.dues)

abbrev pub tallied : Step Unit → Me Unit View → ℕ → Me Unit View → Type 0
tallied step old n new =
    (new.1 ≡ old.1) × Advances old.0 new.0 (Tally n ∷ []) old.0.dues × (n ≡ (state_of new.0.front).debts) × (n ≤ old.0.world.cells + whole)

abbrev pub glanced : ℕ → Arrow → Step Unit → Me Unit View → ℕ → Me Unit View → Type 0
glanced c a step old n new =
    (new.1 ≡ old.1) × Advances old.0 new.0 (glanced_acts c a (target_in new.0 c a)) old.0.dues × (n ≡ edge_word (target_in new.0 c a))

abbrev pub drawn : ℕ → Arrow → Option ℕ → Step Unit → Me Unit View → ℕ → Me Unit View → Type 0
drawn c a t step old n new =
    (new.1 ≡ old.1) × Advances old.0 new.0 (drawn_acts c a t (n == 0)) old.0.dues × (n ≢ 0 → n ≡ edge_word (Some t))

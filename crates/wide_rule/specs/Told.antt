-- What each step on the wide table tells its seat.
use Rattle.std.specs.Prelude.{ℕ, ◌+◌, ◌≡◌, ◌≢◌, ◌==◌, if◌then◌else◌, List, [], ◌∷◌, ◌++◌, Option, Some, None}
use Rattle.crystal_cartan.specs.declared.types.Arrow.{Arrow}
use Rattle.atomic_table.specs.Table.{Me, Step}
use Rattle.graph_history.specs.declared.event.Origin.{Origin}
use Rattle.graph_history.specs.declared.event.Act.{Act}
use Rattle.graph_history.specs.declared.event.Act.TheVariants.{Added, Met, Missed, Spent}
use Rattle.graph_history.specs.declared.event.Event.{Event}
use Rattle.graph_history.specs.History.{state_of, vertex_at, target_at, caller_of}
use Rattle.graph_history.specs.ArrowRows.{edge_word}
use Rattle.graph_history.specs.Desks.{by}
use Rattle.graph_rule.specs.Told.{probed, glanced_acts, drawn_acts}
use Rattle.shared_seats.specs.Seats.{calls, went}
use Rattle.wide_words.specs.declared.spaces.WideCode.{WideCode}
use Rattle.wide_words.specs.WideSpaces.{number}
use Rattle.wide_words.specs.WideHistory.{WideWorldType}
use Rattle.wide_rule.specs.declared.dues.WideDues.{WideDues}
use Rattle.wide_rule.specs.Layout.{low_word, is_last, HasSeen}
use Rattle.wide_rule.specs.Rule.{WideView, whole, IsKnown, IsComplete}

-- the view after own acts at the end of the history h
abbrev pub advanced : WideView → List Event → List Act → WideDues → WideView
advanced v h acts dues = went v h (by v.number acts) dues

-- one step: the front took in what others did, then these own acts were made; with the whole stake nobody else is there
-- to do anything
pub record Advances (v w : WideView) (acts : List Act) (dues : WideDues) : Type 0 where
  pub between : List Event
  pub is : w ≡ advanced v (v.front ++ between) acts dues
  pub quiet : calls caller_of between v.number ≡ []
  pub alone : v.stake ≡ whole → between ≡ []
  pub known : IsKnown w
  pub complete : IsComplete w

-- the acts of loads of a first word and of a second word, in search of the pair x
abbrev pub seek_first_acts : WideWorldType → ℕ → WideCode → ℕ → List Act
seek_first_acts w c x n = probed n (x.high + 1) (is_last w x c) (Missed (number w.space x) ∷ []) [] (Missed (number w.space x) ∷ [])

abbrev pub seek_second_acts : WideWorldType → ℕ → WideCode → ℕ → List Act
seek_second_acts w c x n = probed n (x.low + 1) (is_last w x c) (Missed (number w.space x) ∷ []) (Met c (number w.space x) ∷ []) (Missed (number w.space x) ∷ [])

-- the same where a cell is looked for that the pair may be put into
abbrev pub seek_room_first_acts : WideWorldType → ℕ → WideCode → ℕ → List Act
seek_room_first_acts w c x n = probed n (x.high + 1) (is_last w x c) [] [] (Spent (number w.space x) ∷ [])

abbrev pub seek_room_second_acts : WideWorldType → ℕ → WideCode → ℕ → List Act
seek_room_second_acts w c x n = probed n (x.low + 1) (is_last w x c) [] (Met c (number w.space x) ∷ []) (Spent (number w.space x) ∷ [])

-- the acts of an exchange of a second word from 0 to the low code and 1
abbrev pub claim_second_acts : WideWorldType → ℕ → WideCode → Origin → ℕ → List Act
claim_second_acts w c x o n = if n == 0 then Added c (number w.space x) o ∷ [] else (if n == x.low + 1 then Met c (number w.space x) ∷ [] else [])

-- what a seat has begun after a load of a first word that was n
abbrev pub with_seen : ℕ → ℕ → WideDues → WideDues
with_seen c n dues = record dues { seen = dues.seen ++ record { cell = c; word = n } ∷ [] }

abbrev pub saw : ℕ → ℕ → WideDues → WideDues
saw c n dues = if n == 0 then dues else with_seen c n dues

-- after an exchange of a first word that was n, from 0 to the high code and 1: where it was 0, the cell is pending
abbrev pub claimed : ℕ → WideCode → WideDues → WideDues
claimed c x dues = record dues { seen = dues.seen ++ record { cell = c; word = x.high + 1 } ∷ []; pending = Some c }

abbrev pub tried : ℕ → WideCode → ℕ → WideDues → WideDues
tried c x n dues = if n == 0 then claimed c x dues else with_seen c n dues

-- after an exchange of a second word that was n: the cell is not pending any more, and where the word was 0 it is owed
abbrev pub unless : ℕ → Option ℕ → Option ℕ
unless c None = None
unless c (Some p) = if p == c then None else Some p

abbrev pub finished : ℕ → ℕ → WideDues → WideDues
finished c n dues =
    if n == 0 then record dues { owed = dues.owed ++ c ∷ []; pending = unless c dues.pending }
    else record dues { pending = unless c dues.pending }

-- the word is the one that the seat has seen at the cell, if it has seen any
pub record IsAsSeen (v : WideView) (c n : ℕ) : Type 0 where
  pub as_seen : (m : ℕ) → HasSeen v.dues.seen c m → n ≡ m

-- the second word of a cell by the front
abbrev pub second_seen : WideView → ℕ → ℕ
second_seen v c = low_word v.world (vertex_at (state_of v.front).vertices c)

-- what is drawn of an arrow by the front: nothing, or its target
abbrev pub target_in : WideView → ℕ → Arrow → Option (Option ℕ)
target_in v c a = target_at (state_of v.front).drawn c a

-- what the steps tell, as plays of the table: of the seat before, the word found and the seat after

abbrev pub first_sought : ℕ → WideCode → Step Unit → Me Unit WideView → ℕ → Me Unit WideView → Type 0
first_sought c x step old n new =
    (new.1 ≡ old.1) × Advances old.0 new.0 (seek_first_acts old.0.world c x n) (saw c n old.0.dues) × IsAsSeen old.0 c n

abbrev pub second_sought : ℕ → WideCode → Step Unit → Me Unit WideView → ℕ → Me Unit WideView → Type 0
second_sought c x step old n new =
    (new.1 ≡ old.1) × Advances old.0 new.0 (seek_second_acts old.0.world c x n) old.0.dues × (n ≡ second_seen new.0 c)

abbrev pub first_sought_empty : ℕ → WideCode → Step Unit → Me Unit WideView → ℕ → Me Unit WideView → Type 0
first_sought_empty c x step old n new =
    (new.1 ≡ old.1) × Advances old.0 new.0 (seek_room_first_acts old.0.world c x n) (saw c n old.0.dues) × IsAsSeen old.0 c n

abbrev pub second_sought_empty : ℕ → WideCode → Step Unit → Me Unit WideView → ℕ → Me Unit WideView → Type 0
second_sought_empty c x step old n new =
    (new.1 ≡ old.1) × Advances old.0 new.0 (seek_room_second_acts old.0.world c x n) old.0.dues × (n ≡ second_seen new.0 c)

abbrev pub first_claimed : ℕ → WideCode → Step Unit → Me Unit WideView → ℕ → Me Unit WideView → Type 0
first_claimed c x step old n new = (new.1 ≡ old.1) × Advances old.0 new.0 [] (tried c x n old.0.dues) × IsAsSeen old.0 c n

abbrev pub second_claimed : ℕ → WideCode → Origin → Step Unit → Me Unit WideView → ℕ → Me Unit WideView → Type 0
second_claimed c x o step old n new =
    (new.1 ≡ old.1) × Advances old.0 new.0 (claim_second_acts old.0.world c x o n) (finished c n old.0.dues) × (n ≢ 0 → n ≡ second_seen new.0 c)

abbrev pub glanced : ℕ → Arrow → Step Unit → Me Unit WideView → ℕ → Me Unit WideView → Type 0
glanced c a step old n new =
    (new.1 ≡ old.1) × Advances old.0 new.0 (glanced_acts c a (target_in new.0 c a)) old.0.dues × (n ≡ edge_word (target_in new.0 c a))

abbrev pub drawn : ℕ → Arrow → Option ℕ → Step Unit → Me Unit WideView → ℕ → Me Unit WideView → Type 0
drawn c a t step old n new =
    (new.1 ≡ old.1) × Advances old.0 new.0 (drawn_acts c a t (n == 0)) old.0.dues × (n ≢ 0 → n ≡ edge_word (Some t))

abbrev pub meets : Step Unit → Me Unit WideView → ℕ → Me Unit WideView → Type 0
meets step old n new = (new.1 ≡ old.1) × Advances old.0 new.0 [] old.0.dues

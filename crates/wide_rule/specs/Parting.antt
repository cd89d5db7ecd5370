-- The first seat of a wide graph, seats that are split off, and seats that join.
use Rattle.std.specs.Prelude.{ℕ, List, [], ◌++◌, None}
use Rattle.crystal_cartan.specs.declared.types.Kind.TheVariants.{A}
use Rattle.tensor_words.specs.Spaces.{SpaceType, tensor_space}
use Rattle.graph_history.specs.declared.event.Event.{Event}
use Rattle.shared_seats.specs.Seats.{HasCalls as has_calls, first_view as seats_first, cut_left as seats_left, cut_right as seats_right, joined as seats_joined}
use Rattle.wide_words.specs.WideHistory.{WideWorldType}
use Rattle.wide_rule.specs.declared.dues.WideDues.{WideDues}
use Rattle.graph_history.specs.History.{caller_of}
use Rattle.wide_rule.specs.Rule.{WideView, whole}

-- nothing is begun
abbrev pub nothing : WideDues
nothing = record { owed = []; seen = []; pending = None }

-- the seat that comes with a new table: number 0, all other numbers to give, the whole stake
abbrev pub first_view : WideWorldType → WideView
first_view w = seats_first whole nothing w

-- a seat is split: the child takes the least unused numbers, calls under the first of them, and has begun nothing
abbrev pub cut_left : ℕ → ℕ → WideView → WideView
cut_left numbers stake v = seats_left v.dues numbers stake v

abbrev pub cut_right : ℕ → ℕ → WideView → WideView
cut_right numbers stake v = seats_right nothing numbers stake v

-- a seat joins another: what both owe and have seen is here; the second one has no pending cell
abbrev pub both_dues : WideDues → WideDues → WideDues
both_dues a b = record { owed = a.owed ++ b.owed; seen = a.seen ++ b.seen; pending = a.pending }

abbrev pub joined : WideView → WideView → WideView
joined v u = seats_joined both_dues v u

-- the calls of the view's number, and of each number that it keeps, are in this history just those that the view has
abbrev pub HasCalls : WideView → List Event → Type 0
HasCalls v h = has_calls caller_of v h

-- the view of a seat that was joined away
abbrev no_space : SpaceType
no_space = tensor_space (record { kind = A; rank = 0 }) []

abbrev pub nobody : WideView
nobody = record {
  world = record { space = record { high = no_space; low = no_space }; capacity = 0; roots = [] };
  number = 0;
  calls = [];
  kept = [];
  next = 0;
  left = 0;
  stake = 0;
  front = [];
  olds = [];
  dues = nothing;
}

-- The first seat, seats that are split off, and seats that join.
use Rattle.std.specs.Prelude.{ℕ, ◌+◌, nat_eq, not, List, [], ◌++◌, filter}
use Rattle.std.specs.Set.{is_member}
use Rattle.crystal_cartan.specs.declared.types.Kind.TheVariants.{A}
use Rattle.tensor_words.specs.Spaces.{tensor_space}
use Rattle.tensor_words.specs.Worlds.{WorldType}
use Rattle.graph_history.specs.declared.view.Dues.{Dues}
use Rattle.graph_history.specs.Views.{View}
use Rattle.graph_history.specs.Notes.{no_dues}
use Rattle.shared_seats.specs.Seats.{first_view as seats_first, cut_left as seats_left, cut_right as seats_right, joined as seats_joined}
use Rattle.graph_rule.specs.Rule.{whole}

-- the seat that comes with a new table: number 0, all other numbers to give, the whole stake
abbrev pub first_view : WorldType → View
first_view w = seats_first whole no_dues w

-- a seat is split: the child takes the least unused numbers, calls under the first of them, and owes nothing
abbrev pub cut_left : ℕ → ℕ → View → View
cut_left numbers stake v = seats_left v.dues numbers stake v

abbrev pub cut_right : ℕ → ℕ → View → View
cut_right numbers stake v = seats_right no_dues numbers stake v

-- cells are handed to the child: what was owed and unpaid of them goes over
abbrev pub left_dues : List ℕ → Dues → Dues
left_dues cells d = record d { owed = filter (λ c. not (is_member nat_eq cells c)) d.owed; unpaid = filter (λ c. not (is_member nat_eq cells c)) d.unpaid }

abbrev pub right_dues : List ℕ → Dues → Dues
right_dues cells d = record { owed = filter (is_member nat_eq cells) d.owed; unpaid = filter (is_member nat_eq cells) d.unpaid; pledge = 0 }

abbrev pub hand_left : ℕ → ℕ → List ℕ → View → View
hand_left numbers stake cells v = seats_left (left_dues cells v.dues) numbers stake v

abbrev pub hand_right : ℕ → ℕ → List ℕ → View → View
hand_right numbers stake cells v = seats_right (right_dues cells v.dues) numbers stake v

-- a seat joins another: what both owe is owed here
abbrev pub both_dues : Dues → Dues → Dues
both_dues d e = record { owed = d.owed ++ e.owed; unpaid = d.unpaid ++ e.unpaid; pledge = d.pledge + e.pledge }

abbrev pub joined : View → View → View
joined v u = seats_joined both_dues v u

-- the view of a seat that was joined away
abbrev pub nobody : View
nobody = record { world = record { space = tensor_space (record { kind = A; rank = 0 }) []; cells = 0; roots = [] }; number = 0; calls = []; kept = []; next = 0; left = 0; stake = 0; front = []; olds = []; dues = no_dues }

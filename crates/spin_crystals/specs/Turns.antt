-- The signs that the arrows of one index turn, as bits.
use Rattle.std.specs.Prelude.{ℕ, ◌-◌, ◌*◌, ◌/◌, ◌^◌, nat_lt, if◌then◌else◌, bit_and, bit_xor}
use Rattle.crystal_cartan.specs.Types.{CartanType}
use Rattle.crystal_cartan.specs.declared.types.Kind.{Kind}
use Rattle.crystal_cartan.specs.declared.types.Kind.TheVariants.{D}
use Rattle.spin_crystals.specs.declared.operators.Turn.{Turn}

-- at the last index: in D the last two signs, from plus to minus, and in B the last one
abbrev pub last_turn : Kind → Turn
last_turn D = record { place = 0; mask = 3; from = 0 }
last_turn _ = record { place = 0; mask = 1; from = 0 }

-- below the rank: plus minus at the places i and i + 1
abbrev pub turn_at : CartanType → ℕ → Turn
turn_at t i = if nat_lt i t.rank then record { place = t.rank - i - 1; mask = 3; from = 1 } else last_turn t.kind

-- the signs that a turn reads
abbrev pub bits_read : Turn → ℕ → ℕ
bits_read turn bits = bit_and (bits / 2 ^ turn.place) turn.mask

-- the bits after the turn
abbrev pub bits_turned : Turn → ℕ → ℕ
bits_turned turn bits = bit_xor bits (turn.mask * 2 ^ turn.place)

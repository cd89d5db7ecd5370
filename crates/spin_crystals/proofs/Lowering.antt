-- Lowering and raising by bits.
use Rattle.std.proofs.Common.{◌≡◌, refl, ◌∙◌, sym, ap, ℕ, ◌+◌, ◌-◌, ◌*◌, ◌^◌, ◌≤◌, ◌<◌, ◌==◌, nat_lt, Bool, true, false, IsTrue, if◌then◌else◌, [], ◌∷◌, length, Option, Some, None, arith}
use Rattle.std.specs.Prelude.{bit_xor}
use mir.Val.{bool_byte}
use Rattle.std.specs.Option.{option_map, option_map_or}
use Rattle.std.proofs.Math.Nat.{pow-le-pow_right}
use Rattle.std.proofs.lemmas.Nat.{shl_below, xor_lt}
use Rattle.std.proofs.lemmas.Bool.Decides.{nat_tests}
use Rattle.crystal_cartan.specs.Types.{CartanType, IsCartan, HasIndex, least_rank}
use Rattle.crystal_cartan.specs.declared.types.Kind.{Kind}
use Rattle.crystal_cartan.specs.declared.types.Kind.TheVariants.{A, B, C, D}
use Rattle.spin_crystals.specs.declared.signs.Signs.{Signs}
use Rattle.spin_crystals.specs.Signs.{plus, minus, signs_of_number, HasSpin, has_spin, IsSigns, vector_of}
use Rattle.spin_crystals.specs.SpinCrystals.{signs_action}
use Rattle.spin_crystals.specs.declared.operators.Turn.{Turn}
use Rattle.spin_crystals.specs.Turns.{turn_at, last_turn, bits_read, bits_turned}
use Rattle.spin_crystals.proofs.Edges.{Change, change, changed, last_change, lower-change, raise-change, change-size}
use Rattle.spin_crystals.proofs.Bits.{length-signs_of_number}
use Rattle.spin_crystals.proofs.Strings.{phi-lower, eps-raise}
use Rattle.spin_crystals.proofs.Turning.{IsTurn, turn_from_table, replaced-bits}

-- the turn does what the change says, both ways
record Does (c : Change) (turn : Turn) : Type 0 where
  down : IsTurn (length c.old) c.old c.new turn.mask turn.from
  up : IsTurn (length c.old) c.new c.old turn.mask (bit_xor turn.from turn.mask)
  place : turn.place ≡ c.behind

last_does : (k : Kind) (r : ℕ) → IsTrue (has_spin k) → Does (last_change k r) (last_turn k)
last_does A r spin = cc
last_does B r spin = record {
  down = turn_from_table 1 (plus ∷ []) (minus ∷ []) 0 refl (omega arith) refl refl;
  up = turn_from_table 1 (minus ∷ []) (plus ∷ []) 1 refl (omega arith) refl refl;
  place = refl;
}
last_does C r spin = cc
last_does D r spin = record {
  down = turn_from_table 2 (plus ∷ plus ∷ []) (minus ∷ minus ∷ []) 0 refl (omega arith) refl refl;
  up = turn_from_table 2 (minus ∷ minus ∷ []) (plus ∷ plus ∷ []) 3 refl (omega arith) refl refl;
  place = refl;
}

turn_does : (t : CartanType) (i : ℕ) → HasSpin t → Does (change t i) (turn_at t i)
turn_does t i spin =
    elim (nat_lt i t.rank) as (λ b. Does (changed t i b) (if b then record { place = t.rank - i - 1; mask = 3; from = 1 } else last_turn t.kind)) [
      | true ↦ record {
        down = turn_from_table 2 (plus ∷ minus ∷ []) (minus ∷ plus ∷ []) 1 refl (omega arith) refl refl;
        up = turn_from_table 2 (minus ∷ plus ∷ []) (plus ∷ minus ∷ []) 2 refl (omega arith) refl refl;
        place = refl;
      }
      | false ↦ last_does t.kind t.rank spin
    ]

-- the bits after lowering and after raising
abbrev pub bits_lowered : Turn → ℕ → Option ℕ
bits_lowered turn b = if bits_read turn b == turn.from then Some (bits_turned turn b) else None

abbrev pub bits_raised : Turn → ℕ → Option ℕ
bits_raised turn b = if bits_read turn b == bit_xor turn.from turn.mask then Some (bits_turned turn b) else None

pub lower-bits : (t : CartanType) (i b : ℕ) → IsCartan t → HasSpin t → HasIndex t i →
    (signs_action t i).lower (signs_of_number t.rank b) ≡ option_map (signs_of_number t.rank) (bits_lowered (turn_at t i) b)
lower-bits t i b classical spin index =
    let does : Does (change t i) (turn_at t i) = turn_does t i spin in
    lower-change t i (signs_of_number t.rank b) classical spin index (length-signs_of_number t.rank b) ∙
    rw does.place (replaced-bits (length (change t i).old) (change t i).old (change t i).new (turn_at t i).mask (turn_at t i).from does.down
    (change t i).after (change t i).behind t.rank b (change-size t i classical index))

pub raise-bits : (t : CartanType) (i b : ℕ) → IsCartan t → HasSpin t → HasIndex t i →
    (signs_action t i).raise (signs_of_number t.rank b) ≡ option_map (signs_of_number t.rank) (bits_raised (turn_at t i) b)
raise-bits t i b classical spin index =
    let does : Does (change t i) (turn_at t i) = turn_does t i spin in
    raise-change t i (signs_of_number t.rank b) classical spin index (length-signs_of_number t.rank b) ∙
    rw does.place (replaced-bits (length (change t i).old) (change t i).new (change t i).old (turn_at t i).mask (bit_xor (turn_at t i).from (turn_at t i).mask) does.up
    (change t i).after (change t i).behind t.rank b (change-size t i classical index))

-- the element x is at its vector
at_vector : (t : CartanType) (x : Signs) → IsSigns t x → signs_of_number t.rank x.bits ≡ vector_of x
at_vector t x element = ap (λ n. signs_of_number n x.bits) (sym element.size)

-- ---- the four calls, at a turn that is that of the index

pub lower_made : (t : CartanType) (i : ℕ) (x y : Signs) (turn : Turn) → turn ≡ turn_at t i → IsCartan t → HasSpin t → HasIndex t i → IsSigns t x →
    bits_read turn x.bits ≡ turn.from → y.bits ≡ bits_turned turn x.bits → y.size ≡ x.size → (signs_action t i).lower (vector_of x) ≡ Some (vector_of y)
lower_made t i x y turn same classical spin index element read bits size =
    let test : (bits_read turn x.bits == turn.from) ≡ true = grind (arith, nat_tests) in
    ap (signs_action t i).lower (sym (at_vector t x element)) ∙ lower-bits t i x.bits classical spin index ∙
    rw (← same, test, size, element.size, bits) refl

pub lower_none : (t : CartanType) (i : ℕ) (x : Signs) (turn : Turn) → turn ≡ turn_at t i → IsCartan t → HasSpin t → HasIndex t i → IsSigns t x →
    (bits_read turn x.bits ≡ turn.from → ⊥) → (signs_action t i).lower (vector_of x) ≡ None
lower_none t i x turn same classical spin index element read =
    let test : (bits_read turn x.bits == turn.from) ≡ false = grind (arith, nat_tests) in
    ap (signs_action t i).lower (sym (at_vector t x element)) ∙ lower-bits t i x.bits classical spin index ∙ rw (← same, test) refl

pub raise_made : (t : CartanType) (i : ℕ) (x y : Signs) (turn : Turn) → turn ≡ turn_at t i → IsCartan t → HasSpin t → HasIndex t i → IsSigns t x →
    bits_read turn x.bits ≡ bit_xor turn.from turn.mask → y.bits ≡ bits_turned turn x.bits → y.size ≡ x.size → (signs_action t i).raise (vector_of x) ≡ Some (vector_of y)
raise_made t i x y turn same classical spin index element read bits size =
    let test : (bits_read turn x.bits == bit_xor turn.from turn.mask) ≡ true = grind (arith, nat_tests) in
    ap (signs_action t i).raise (sym (at_vector t x element)) ∙ raise-bits t i x.bits classical spin index ∙
    rw (← same, test, size, element.size, bits) refl

pub raise_none : (t : CartanType) (i : ℕ) (x : Signs) (turn : Turn) → turn ≡ turn_at t i → IsCartan t → HasSpin t → HasIndex t i → IsSigns t x →
    (bits_read turn x.bits ≡ bit_xor turn.from turn.mask → ⊥) → (signs_action t i).raise (vector_of x) ≡ None
raise_none t i x turn same classical spin index element read =
    let test : (bits_read turn x.bits == bit_xor turn.from turn.mask) ≡ false = grind (arith, nat_tests) in
    ap (signs_action t i).raise (sym (at_vector t x element)) ∙ raise-bits t i x.bits classical spin index ∙ rw (← same, test) refl

one_or_none : {E F : Type 0} (f : E → F) (b : Bool) (x : E) → option_map_or (λ y. 1) (option_map f (if b then Some x else None)) 0 ≡ bool_byte b
one_or_none f true x = refl
one_or_none f false x = refl

pub size_of : (t : CartanType) (x : Signs) → IsSigns t x → length (vector_of x) ≡ t.rank
size_of t x element = length-signs_of_number x.size x.bits ∙ element.size

pub phi_read : (t : CartanType) (i : ℕ) (x : Signs) (turn : Turn) → turn ≡ turn_at t i → IsCartan t → HasSpin t → HasIndex t i → IsSigns t x →
    (signs_action t i).phi (vector_of x) ≡ bool_byte (bits_read turn x.bits == turn.from)
phi_read t i x turn same classical spin index element =
    phi-lower t i (vector_of x) classical spin index (size_of t x element) ∙
    ap (λ v. option_map_or (λ y. 1) ((signs_action t i).lower v) 0) (sym (at_vector t x element)) ∙
    rw (lower-bits t i x.bits classical spin index, ← same) (one_or_none (signs_of_number t.rank) (bits_read turn x.bits == turn.from) (bits_turned turn x.bits))

pub eps_read : (t : CartanType) (i : ℕ) (x : Signs) (turn : Turn) → turn ≡ turn_at t i → IsCartan t → HasSpin t → HasIndex t i → IsSigns t x →
    (signs_action t i).eps (vector_of x) ≡ bool_byte (bits_read turn x.bits == bit_xor turn.from turn.mask)
eps_read t i x turn same classical spin index element =
    eps-raise t i (vector_of x) classical spin index (size_of t x element) ∙
    ap (λ v. option_map_or (λ y. 1) ((signs_action t i).raise v) 0) (sym (at_vector t x element)) ∙
    rw (raise-bits t i x.bits classical spin index, ← same) (one_or_none (signs_of_number t.rank) (bits_read turn x.bits == bit_xor turn.from turn.mask) (bits_turned turn x.bits))

-- the turned signs are among those of the vector
last_turn-fits : (k : Kind) (r : ℕ) → IsTrue (has_spin k) → least_rank k ≤ r → (last_turn k).mask * 2 ^ (last_turn k).place < 2 ^ r
last_turn-fits A r spin low = cc
last_turn-fits B r spin low = let least : 2 ^ 2 ≤ 2 ^ r = pow-le-pow_right (omega arith) low in omega arith
last_turn-fits C r spin low = cc
last_turn-fits D r spin low = let least : 2 ^ 3 ≤ 2 ^ r = pow-le-pow_right (omega arith) low in omega arith

exchange_turn-fits : (r i : ℕ) → 1 ≤ i → i < r → 3 * 2 ^ (r - i - 1) < 2 ^ r
exchange_turn-fits r i low high =
    let fits : 3 * 2 ^ (r - i - 1) < 2 ^ (2 + (r - i - 1)) = shl_below 3 2 (r - i - 1) (omega arith) in
    let least : 2 ^ (2 + (r - i - 1)) ≤ 2 ^ r = pow-le-pow_right (omega arith) (omega arith) in
    omega arith

pub turn_at-fits : (t : CartanType) (i : ℕ) → IsCartan t → HasSpin t → HasIndex t i → (turn_at t i).mask * 2 ^ (turn_at t i).place < 2 ^ t.rank
turn_at-fits t i classical spin index =
    elim (nat_lt i t.rank) as (λ b. nat_lt i t.rank ≡ b → (turned b).mask * 2 ^ (turned b).place < 2 ^ t.rank) [
      | true ↦ λ is. exchange_turn-fits t.rank i index.low (below is)
      | false ↦ λ is. last_turn-fits t.kind t.rank spin classical.low
    ] refl
  where
    turned : Bool → Turn
    turned b = if b then record { place = t.rank - i - 1; mask = 3; from = 1 } else last_turn t.kind

    below : nat_lt i t.rank ≡ true → i < t.rank
    below is = grind (arith, nat_tests)

pub turn-whole : (t : CartanType) (i : ℕ) (turn : Turn) → turn ≡ turn_at t i → IsCartan t → HasSpin t → HasIndex t i → turn.mask * 2 ^ turn.place < 256
turn-whole t i turn same classical spin index =
    let fits : turn.mask * 2 ^ turn.place < 2 ^ t.rank = rw same (turn_at-fits t i classical spin index) in
    let most : 2 ^ t.rank ≤ 2 ^ 8 = pow-le-pow_right (omega arith) classical.high in
    omega arith

pub turned_element : (t : CartanType) (i : ℕ) (x y : Signs) (turn : Turn) → turn ≡ turn_at t i → IsCartan t → HasSpin t → HasIndex t i → IsSigns t x →
    y.bits ≡ bits_turned turn x.bits → y.size ≡ x.size → IsSigns t y
turned_element t i x y turn same classical spin index element bits size =
    let fits : turn.mask * 2 ^ turn.place < 2 ^ t.rank = rw same (turn_at-fits t i classical spin index) in
    record { size = size ∙ element.size; below = rw bits (xor_lt t.rank x.bits (turn.mask * 2 ^ turn.place) element.below fits) }

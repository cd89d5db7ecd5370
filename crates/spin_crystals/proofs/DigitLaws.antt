-- The laws of a seminormal crystal, on the digits of a half.
use Rattle.std.proofs.Common.{◌≡◌, refl, ◌∙◌, sym, ap, ℕ, suc, ◌+◌, ◌*◌, ◌%◌, ◌^◌, ◌≤◌, ◌<◌, ◌↔◌, nat_le, Bool, true, false, IsTrue, List, [], ◌∷◌, length, Option, Some, None, arith, zero-add}
use Rattle.std.specs.Option.{option_map}
use Rattle.std.proofs.Math.Nat.{mod-eq_of_lt, add-mod_left}
use Rattle.std.proofs.lemmas.Nat.{pow-add}
use Rattle.std.proofs.lemmas.Bool.Decides.{nat_tests}
use Rattle.crystal_cartan.specs.Types.{CartanType, IsCartan, HasIndex}
use Rattle.crystal_cartan.specs.Seminormal.{IsSeminormal}
use Rattle.crystal_cartan.specs.declared.types.Kind.{Kind}
use Rattle.crystal_cartan.specs.declared.types.Kind.TheVariants.{A, B, C, D}
use Rattle.spin_crystals.specs.declared.signs.Half.{Half}
use Rattle.spin_crystals.specs.declared.signs.Half.TheVariants.{Whole, Plus, Minus}
use Rattle.spin_crystals.specs.Signs.{signs_of_number, number_of_signs, is_of_half, half_size, signs_digit, signs_at, HasHalf, has_half, HasSpin, has_spin, KeepsHalves}
use Rattle.spin_crystals.specs.SpinCrystals.{signs_action, spin_digit_action, signs_weight}
use Rattle.spin_crystals.proofs.Bits.{signs_of_number-mod}
use Rattle.spin_crystals.proofs.Halves.{lower_keeps, raise_keeps}
use Rattle.spin_crystals.proofs.Places.{digit_of_bits, digit_of_bits-back, signs_digit-bits, signs_at-half, length-signs_at, signs_digit-at, digit_of_bits-below}
use Rattle.spin_crystals.proofs.Edges.{change, lower-change, raise-change, change-lengths}
use Rattle.spin_crystals.proofs.Strings.{replaced_length}
use Rattle.spin_crystals.proofs.VectorLaws.{vector_seminormal}
use Rattle.crystal_cartan.proofs.Ranks.{rank_positive}

pub spin_from_half : (t : CartanType) (half : Half) → HasHalf t half → HasSpin t
spin_from_half t half has = from t.kind half has
  where
    from : (k : Kind) (h : Half) → IsTrue (has_half k h) → IsTrue (has_spin k)
    from A Whole p = cc
    from A Plus p = cc
    from A Minus p = cc
    from B h p = refl
    from C Whole p = cc
    from C Plus p = cc
    from C Minus p = cc
    from D h p = refl

-- ---- every vector is that of its number

pub number_below : (v : List Bool) → number_of_signs v < 2 ^ length v
number_below [] = omega arith
number_below (false ∷ v) =
    let rest : number_of_signs v < 2 ^ length v = number_below v in
    let double : 2 ^ (1 + length v) ≡ 2 ^ 1 * 2 ^ length v = pow-add 2 1 (length v) in
    let size : suc (length v) ≡ 1 + length v = omega arith in
    rw size (omega arith)
number_below (true ∷ v) =
    let rest : number_of_signs v < 2 ^ length v = number_below v in
    let double : 2 ^ (1 + length v) ≡ 2 ^ 1 * 2 ^ length v = pow-add 2 1 (length v) in
    let size : suc (length v) ≡ 1 + length v = omega arith in
    rw size (omega arith)

head_sign : (n a : ℕ) → a < 2 ^ n → (nat_le (2 ^ n) ((2 ^ n + a) % 2 ^ (n + 1)) ≡ true) × (nat_le (2 ^ n) ((0 + a) % 2 ^ (n + 1)) ≡ false)
head_sign n a below =
    let double : 2 ^ (n + 1) ≡ 2 ^ n * 2 ^ 1 = pow-add 2 n 1 in
    let large : 2 ^ n + a < 2 ^ (n + 1) = omega arith in
    let small : 0 + a < 2 ^ (n + 1) = omega arith in
    (rw (mod-eq_of_lt large) (grind (arith, nat_tests)), rw (mod-eq_of_lt small) (grind (arith, nat_tests)))

tail_signs : (n a : ℕ) → signs_of_number n (2 ^ n + a) ≡ signs_of_number n a
tail_signs n a = signs_of_number-mod n (2 ^ n + a) a (add-mod_left (2 ^ n) a)

pub signs_of_number-number : (v : List Bool) → signs_of_number (length v) (number_of_signs v) ≡ v
signs_of_number-number [] = refl
signs_of_number-number (false ∷ v) =
    rw ((head_sign (length v) (number_of_signs v) (number_below v)).1, zero-add (number_of_signs v)) (ap (λ w. false ∷ w) (signs_of_number-number v))
signs_of_number-number (true ∷ v) =
    rw ((head_sign (length v) (number_of_signs v) (number_below v)).0, tail_signs (length v) (number_of_signs v)) (ap (λ w. true ∷ w) (signs_of_number-number v))

-- the vector with the digit of a vector of the half
pub signs_at-digit : (half : Half) (r : ℕ) (v : List Bool) → 1 ≤ r → length v ≡ r → IsTrue (is_of_half half v) → signs_at half r (signs_digit half v) ≡ v
signs_at-digit half r v low size parity =
    let b : ℕ = number_of_signs v in
    let same : signs_of_number r (number_of_signs v) ≡ v = ap (λ n. signs_of_number n (number_of_signs v)) (sym size) ∙ signs_of_number-number v in
    let below : number_of_signs v < 2 ^ r = rw (sym size) (number_below v) in
    let of_half : IsTrue (is_of_half half (signs_of_number r (number_of_signs v))) = rw same parity in
    let digit_is : signs_digit half v ≡ digit_of_bits half (number_of_signs v) = ap (signs_digit half) (sym same) ∙ signs_digit-bits half r (number_of_signs v) low below in
    ap (signs_at half r) digit_is ∙ digit_of_bits-back half r (number_of_signs v) low of_half ∙ same

pub signs_digit-below : (half : Half) (r : ℕ) (v : List Bool) → 1 ≤ r → length v ≡ r → signs_digit half v < half_size half r
signs_digit-below half r v low size =
    let same : signs_of_number r (number_of_signs v) ≡ v = ap (λ n. signs_of_number n (number_of_signs v)) (sym size) ∙ signs_of_number-number v in
    let below : number_of_signs v < 2 ^ r = rw (sym size) (number_below v) in
    let digit_is : signs_digit half v ≡ digit_of_bits half (number_of_signs v) = ap (signs_digit half) (sym same) ∙ signs_digit-bits half r (number_of_signs v) low below in
    rw digit_is (digit_of_bits-below half r (number_of_signs v) low below)

-- ---- the action on digits

record IsMapped (half : Half) (o : Option (List Bool)) (e : ℕ) : Type 0 where
  vector : List Bool
  there : o ≡ Some vector
  digit : signs_digit half vector ≡ e

mapped : (half : Half) (o : Option (List Bool)) (e : ℕ) → option_map (signs_digit half) o ≡ Some e → IsMapped half o e
mapped half None e is = cc
mapped half (Some v) e is = record { vector = v; there = refl; digit = cc }

mapped_none : (half : Half) (o : Option (List Bool)) → (option_map (signs_digit half) o ≡ None) ↔ (o ≡ None)
mapped_none half None = (λ is. refl, λ is. refl)
mapped_none half (Some v) = (λ is. cc, λ is. cc)

-- a vector of the half, of which e is the digit
record IsStep (t : CartanType) (half : Half) (o : Option (List Bool)) (e : ℕ) : Type 0 where
  vector : List Bool
  there : o ≡ Some vector
  at : signs_at half t.rank e ≡ vector
  below : e < half_size half t.rank

step_of : (t : CartanType) (half : Half) (x : List Bool) (o : Option (List Bool)) (e : ℕ) → IsCartan t → HasHalf t half → IsTrue (is_of_half half x) →
    ((y : List Bool) → o ≡ Some y → length y ≡ t.rank) → ((y : List Bool) → o ≡ Some y → KeepsHalves t x y) → option_map (signs_digit half) o ≡ Some e → IsStep t half o e
step_of t half x o e classical has parity sizes keeps is =
    let m : IsMapped half o e = mapped half o e is in
    let size : length m.vector ≡ t.rank = sizes m.vector m.there in
    let low : 1 ≤ t.rank = rank_positive t classical in
    let of_half : IsTrue (is_of_half half m.vector) = sym (keeps m.vector m.there half has) ∙ parity in
    let back : signs_at half t.rank (signs_digit half m.vector) ≡ m.vector = signs_at-digit half t.rank m.vector low size of_half in
    let within : signs_digit half m.vector < half_size half t.rank = signs_digit-below half t.rank m.vector low size in
    record { vector = m.vector; there = m.there; at = ap (signs_at half t.rank) (sym m.digit) ∙ back; below = rw (← m.digit) within }

lower_length : (t : CartanType) (i : ℕ) (x y : List Bool) → IsCartan t → HasSpin t → HasIndex t i → length x ≡ t.rank → (signs_action t i).lower x ≡ Some y → length y ≡ t.rank
lower_length t i x y classical spin index size made =
    replaced_length (change t i).after (change t i).old (change t i).new x y (change-lengths t i) (sym (lower-change t i x classical spin index size) ∙ made) ∙ size

raise_length : (t : CartanType) (i : ℕ) (x y : List Bool) → IsCartan t → HasSpin t → HasIndex t i → length x ≡ t.rank → (signs_action t i).raise x ≡ Some y → length y ≡ t.rank
raise_length t i x y classical spin index size made =
    replaced_length (change t i).after (change t i).new (change t i).old x y (sym (change-lengths t i)) (sym (raise-change t i x classical spin index size) ∙ made) ∙ size

lower_step : (t : CartanType) (half : Half) (i d e : ℕ) → IsCartan t → HasHalf t half → HasIndex t i → (spin_digit_action t half i).lower d ≡ Some e →
    IsStep t half ((signs_action t i).lower (signs_at half t.rank d)) e
unfolding spin_digit_action
lower_step t half i d e classical has index made =
    let x : List Bool = signs_at half t.rank d in
    let spin : HasSpin t = spin_from_half t half has in
    let size : length (signs_at half t.rank d) ≡ t.rank = length-signs_at half t.rank d (rank_positive t classical) in
    step_of t half (signs_at half t.rank d) ((signs_action t i).lower (signs_at half t.rank d)) e classical has (signs_at-half half t.rank d)
    (λ y is. lower_length t i (signs_at half t.rank d) y classical spin index size is) (λ y is. lower_keeps t i (signs_at half t.rank d) y classical spin index size is) made

raise_step : (t : CartanType) (half : Half) (i d e : ℕ) → IsCartan t → HasHalf t half → HasIndex t i → (spin_digit_action t half i).raise d ≡ Some e →
    IsStep t half ((signs_action t i).raise (signs_at half t.rank d)) e
unfolding spin_digit_action
raise_step t half i d e classical has index made =
    let spin : HasSpin t = spin_from_half t half has in
    let size : length (signs_at half t.rank d) ≡ t.rank = length-signs_at half t.rank d (rank_positive t classical) in
    step_of t half (signs_at half t.rank d) ((signs_action t i).raise (signs_at half t.rank d)) e classical has (signs_at-half half t.rank d)
    (λ y is. raise_length t i (signs_at half t.rank d) y classical spin index size is) (λ y is. raise_keeps t i (signs_at half t.rank d) y classical spin index size is) made

-- the digits that lowering and raising lead to are below the number of vectors
pub lowered_digit-below : (t : CartanType) (half : Half) (i d e : ℕ) → IsCartan t → HasHalf t half → HasIndex t i →
    (spin_digit_action t half i).lower d ≡ Some e → e < half_size half t.rank
lowered_digit-below t half i d e classical has index made = (lower_step t half i d e classical has index made).below

pub raised_digit-below : (t : CartanType) (half : Half) (i d e : ℕ) → IsCartan t → HasHalf t half → HasIndex t i →
    (spin_digit_action t half i).raise d ≡ Some e → e < half_size half t.rank
raised_digit-below t half i d e classical has index made = (raise_step t half i d e classical has index made).below

-- the laws at every digit below the number of vectors
pub digit_seminormal : (t : CartanType) (half : Half) (i d : ℕ) → IsCartan t → HasHalf t half → HasIndex t i → d < half_size half t.rank →
    IsSeminormal t i (spin_digit_action t half i) (λ e. signs_weight t (signs_at half t.rank e)) d
unfolding spin_digit_action
digit_seminormal t half i d classical has index below =
    let spin : HasSpin t = spin_from_half t half has in
    let size : length (signs_at half t.rank d) ≡ t.rank = length-signs_at half t.rank d (rank_positive t classical) in
    let law : IsSeminormal t i (signs_action t i) (signs_weight t) (signs_at half t.rank d) = vector_seminormal t i (signs_at half t.rank d) classical spin index size in
    let none_down = mapped_none half ((signs_action t i).lower (signs_at half t.rank d)) in
    let none_up = mapped_none half ((signs_action t i).raise (signs_at half t.rank d)) in
    record {
      raised_back = λ e made.
          let s = lower_step t half i d e classical has index made in
          rw (s.at, law.raised_back s.vector s.there) (ap Some (signs_digit-at half t.rank d below));
      lowered_back = λ e made.
          let s = raise_step t half i d e classical has index made in
          rw (s.at, law.lowered_back s.vector s.there) (ap Some (signs_digit-at half t.rank d below));
      lower_ends = (λ none. law.lower_ends.0 (none_down.0 none), λ zero. none_down.1 (law.lower_ends.1 zero));
      raise_ends = (λ none. law.raise_ends.0 (none_up.0 none), λ zero. none_up.1 (law.raise_ends.1 zero));
      lower_counts = λ e made.
          let s = lower_step t half i d e classical has index made in
          rw s.at (law.lower_counts s.vector s.there);
      raise_counts = λ e made.
          let s = raise_step t half i d e classical has index made in
          rw s.at (law.raise_counts s.vector s.there);
      balanced = law.balanced;
      weight_falls = λ e made.
          let s = lower_step t half i d e classical has index made in
          rw s.at (law.weight_falls s.vector s.there);
    }

-- Texts of vectors of signs.
use Rattle.std.proofs.Common.{◌≡◌, ◌∙◌, refl, sym, ap, ℕ, suc, ◌+◌, ◌-◌, ◌*◌, ◌/◌, ◌%◌, ◌^◌, ◌≤◌, ◌<◌, ◌==◌, nat_le, Bool, true, false, List, [], ◌∷◌, ◌++◌, length, drop, get_or, Option, Some, None, option_map, option_and_then, append_assoc, arith, if◌then◌else◌}
use Rattle.std.proofs.Math.Nat.{one-mul}
use Rattle.std.proofs.lemmas.Nat.{pow_pos, field_of}
use Rattle.std.proofs.lemmas.List.{drop_more}
use Rattle.std.proofs.lemmas.Bool.Decides.{nat_tests}
use Rattle.spin_crystals.specs.Signs.{signs_of_number, half_size, is_of_half, signs_digit, signs_at}
use Rattle.spin_crystals.specs.declared.signs.Half.{Half}
use Rattle.spin_crystals.proofs.Bits.{nat_le-div}
use Rattle.spin_crystals.proofs.Places.{signs_of_number-last, signs_at-half, length-signs_at, signs_digit-at}
use Rattle.crystal_cartan.specs.Types.{CartanType}
use Rattle.text_pieces.specs.Numbers.{both, all_some}
use Rattle.text_pieces.specs.Pieces.{has_none, is_word}
use Rattle.tableau_reading.specs.Texts.{signs_text}
use Rattle.tableau_reading.specs.Tokens.{sign_of, digit_of_signs, read_signs}

-- the sign with n others behind it is a bit
pub sign_here : (n b : ℕ) → nat_le (2 ^ n) (b % 2 ^ (n + 1)) ≡ (b / 2 ^ n % 2 == 1)
sign_here n b =
    let order : n + 1 ≡ 1 + n = omega arith in
    let test : nat_le (2 ^ n) (b % 2 ^ (n + 1)) ≡ nat_le 1 (b % 2 ^ (n + 1) / 2 ^ n) = ap (λ p. nat_le p (b % 2 ^ (n + 1))) (sym (one-mul (2 ^ n))) ∙ nat_le-div 1 (2 ^ n) (b % 2 ^ (n + 1)) (pow_pos n) in
    test ∙ rw (order, field_of b 1 n) (binary (b / 2 ^ n))
  where
    binary : (q : ℕ) → nat_le 1 (q % 2 ^ 1) ≡ (q % 2 == 1)
    binary q = grind (arith, nat_tests)

-- the signs read so far and those to be read
abbrev pub IsReadTo : List ℕ → ℕ → ℕ → Type 0
IsReadTo text k b = option_map (λ v. signs_of_number k b ++ v) (all_some sign_of (drop k text)) ≡ all_some sign_of text

map_front : (u : List Bool) (s : Bool) (r : Option (List Bool)) → option_map (λ v. u ++ v) (both (Some s) r) ≡ option_map (λ v. (u ++ s ∷ []) ++ v) r
map_front u s None = refl
map_front u s (Some v) = ap Some (sym (append_assoc u (s ∷ []) v))

pub sign_taken :
    (text : List ℕ) (k b bit c : ℕ) → k < length text → bit ≤ 1 → sign_of (get_or text k 0) ≡ Some (bit == 1) → c ≡ 2 * b + bit →
    IsReadTo text k b → IsReadTo text (k + 1) c
sign_taken text k b bit c lt small good is before =
    let split : drop k text ≡ get_or text k 0 ∷ drop (k + 1) text = drop_more text k 0 lt in
    let here = rw (split, good) at before in
    let size : k + 1 - 1 ≡ k = omega arith in
    let front : c / 2 ≡ b = omega arith in
    let last : c % 2 ≡ bit = omega arith in
    let test : nat_le 1 bit ≡ (bit == 1) = grind (arith, nat_tests) in
    let signs : signs_of_number (k + 1) c ≡ signs_of_number k b ++ (bit == 1) ∷ [] = rw (signs_of_number-last (k + 1) c (omega arith), size, front, last, test) refl in
    rw signs (sym (map_front (signs_of_number k b) (bit == 1) (all_some sign_of (drop (k + 1) text))) ∙ here)

-- ---- what is printed is read

pub signs_back : (v : List Bool) → all_some sign_of (signs_text v) ≡ Some v
signs_back [] = refl
signs_back (true ∷ v) = rw (signs_back v) refl
signs_back (false ∷ v) = rw (signs_back v) refl

pub signs_no_blank : (v : List Bool) → has_none 32 (signs_text v) ≡ true
signs_no_blank [] = refl
signs_no_blank (true ∷ v) = signs_no_blank v
signs_no_blank (false ∷ v) = signs_no_blank v

pub signs_are_word : (v : List Bool) → 1 ≤ length v → is_word (signs_text v) ≡ true
signs_are_word [] some = absurd (omega arith)
signs_are_word (s ∷ v) some = signs_no_blank (s ∷ v)

pub half_back : (t : CartanType) (half : Half) (d : ℕ) → 1 ≤ t.rank → d < half_size half t.rank → read_signs t half (signs_text (signs_at half t.rank d)) ≡ Some d
half_back t half d some below =
    let same : (length (signs_at half t.rank d) == t.rank) ≡ true = rw (length-signs_at half t.rank d some) (reflexive t.rank) in
    let good : is_of_half half (signs_at half t.rank d) ≡ true = signs_at-half half t.rank d in
    rw (signs_back (signs_at half t.rank d), same, good, signs_digit-at half t.rank d below) refl
  where
    reflexive : (n : ℕ) → (n == n) ≡ true
    reflexive n = grind (arith, nat_tests)

-- ---- tokens of signs

both_size : (s : Bool) (r : Option (List Bool)) (v : List Bool) (n : ℕ) → ((u : List Bool) → r ≡ Some u → length u ≡ n) → both (Some s) r ≡ Some v → length v ≡ suc n
both_size s None v n sizes is = cc
both_size s (Some u) v n sizes is =
    let same : s ∷ u ≡ v = cc in
    ap length (sym same) ∙ ap suc (sizes u refl)

signs_size : (text : List ℕ) (v : List Bool) → all_some sign_of text ≡ Some v → length v ≡ length text
signs_size [] v is = let same : [] ≡ v = cc in ap length (sym same)
signs_size (b ∷ bs) v is =
    elim (sign_of b) as (λ o. both o (all_some sign_of bs) ≡ Some v → length v ≡ suc (length bs)) [
      | None ↦ λ none. cc
      | Some s ↦ λ some. both_size s (all_some sign_of bs) v (length bs) (λ u. signs_size bs u) some
    ] is

pub wrong_size : (t : CartanType) (half : Half) (text : List ℕ) → (length text ≡ t.rank → ⊥) → None ≡ read_signs t half text
wrong_size t half text other = by_signs (all_some sign_of text) refl
  where
    by_signs : (r : Option (List Bool)) → all_some sign_of text ≡ r → None ≡ option_and_then (digit_of_signs t half) r
    by_signs None is = refl
    by_signs (Some v) is =
        let size : length v ≡ length text = signs_size text v is in
        let test : (length v == t.rank) ≡ false = grind (arith, nat_tests, other) in
        rw test refl

pub half_read :
    (t : CartanType) (half : Half) (text : List ℕ) (v : List Bool) (b : Bool) → Some v ≡ all_some sign_of text → length text ≡ t.rank → b ≡ is_of_half half v →
    (if b then Some (signs_digit half v) else None) ≡ read_signs t half text
half_read t half text v b read size of_half =
    let same : length v ≡ length text = signs_size text v (sym read) in
    let test : (length v == t.rank) ≡ true = grind (arith, nat_tests) in
    rw (← read, test, of_half) refl

-- Weights of letters, and the laws of a seminormal crystal on letters and on their digits.
use Rattle.std.proofs.Common.{◌≡◌, ℕ, zero, suc, ◌+◌, ◌-◌, ◌<◌, ◌==◌, Bool, true, false, ◌&&◌, if◌then◌else◌, List, slice_set, slice_index_or, All, ℤ, pos, negsuc, ◌<ℤ◌, ◌+ℤ◌, ◌-ℤ◌, unsigned_abs, Option, Some, None, IfSome, ◌↔◌, arith, refl, sym, ap, ◌∙◌, int_eq}
use Rattle.std.specs.List.{range_with_len}
use Rattle.std.specs.Int.Signed.{lt_z}
use Rattle.std.specs.Option.{option_eq, option_map}
use Rattle.std.proofs.lemmas.Bool.{eqb-true}
use Rattle.std.proofs.lemmas.Int.{ints}
use Rattle.std.proofs.lemmas.List.Elements.{All-map}
use Rattle.list_facts.proofs.Truth.{first_true, second_true}
use Rattle.crystal_cartan.specs.Types.{CartanType, IsCartan, HasIndex, coordinates}
use Rattle.crystal_cartan.specs.Weights.{zero_weight, difference_of, root, twice_pairing, IsWithin}
use Rattle.crystal_cartan.specs.Crystals.{Action, target, origin}
use Rattle.crystal_cartan.specs.Seminormal.{IsSeminormal}
use Rattle.crystal_cartan.specs.declared.types.Kind.{Kind}
use Rattle.crystal_cartan.specs.declared.types.Kind.TheVariants.{A, B, C, D}
use Rattle.vector_crystals.specs.Letters.{barred, IsLetter, letter_count, letter_at, letter_digit}
use Rattle.vector_crystals.specs.VectorCrystals.{letter_action, digit_action, letter_weight}
use Rattle.vector_crystals.proofs.Tables.{if_some, some_at, same_list, same_list-true, all_letters, letters_at, all_cells, cells_at, int_eq-true, option_eq-true}
use Rattle.vector_crystals.proofs.Rules.{near_edges, is_long, steps_of, lower_near, raise_near, lower-letter, raise-letter, phi_near, eps_near}
use Rattle.vector_crystals.proofs.Digits.{letter_at-letter, letter_digit-letter_at, letter_at-letter_digit}

abbrev type_of : Kind → ℕ → CartanType
type_of k r = record { kind = k; rank = r }

-- the weight as it is made: one coordinate of the zero weight is changed
abbrev made_weight : CartanType → ℤ → List ℤ
made_weight t (pos zero) = zero_weight t
made_weight t (pos (suc n)) = slice_set (zero_weight t) n (pos 2)
made_weight t (negsuc n) = slice_set (zero_weight t) n (negsuc 1)

abbrev weight_cell : Kind → ℕ → ℤ → Bool
weight_cell k r x = same_list (made_weight (type_of k r) x) (letter_weight (type_of k r) x)

weight_rows : (k : Kind) → all_letters weight_cell k ≡ true
unfolding letter_weight
weight_rows A = refl
weight_rows B = refl
weight_rows C = refl
weight_rows D = refl

weight_made : (t : CartanType) (x : ℤ) → IsCartan t → IsLetter t x → made_weight t x ≡ letter_weight t x
weight_made t x c there = same_list-true _ _ (letters_at weight_cell weight_rows t x c there)

pub weight-unbarred : (t : CartanType) (x : ℤ) (w : List ℤ) → IsCartan t → IsLetter t x → pos 0 <ℤ x → w ≡ slice_set (zero_weight t) (unsigned_abs x - 1) (pos 2)
    → w ≡ letter_weight t x
weight-unbarred t (pos zero) w c there sign is = absurd (omega (arith, ints))
weight-unbarred t (pos (suc n)) w c there sign is =
    let place : suc n - 1 ≡ n = omega arith in
    is ∙ (ap (λ (j : ℕ). slice_set (zero_weight t) j (pos 2)) place ∙ weight_made t (pos (suc n)) c there)
weight-unbarred t (negsuc n) w c there sign is = absurd (omega (arith, ints))

pub weight-barred : (t : CartanType) (x : ℤ) (w : List ℤ) → IsCartan t → IsLetter t x → x <ℤ pos 0 → w ≡ slice_set (zero_weight t) (unsigned_abs x - 1) (negsuc 1)
    → w ≡ letter_weight t x
weight-barred t (pos n) w c there sign is = absurd (omega (arith, ints))
weight-barred t (negsuc n) w c there sign is =
    let place : suc n - 1 ≡ n = omega arith in
    is ∙ (ap (λ (j : ℕ). slice_set (zero_weight t) j (negsuc 1)) place ∙ weight_made t (negsuc n) c there)

pub weight-zero : (t : CartanType) (x : ℤ) (w : List ℤ) → IsCartan t → IsLetter t x → x ≡ pos 0 → w ≡ zero_weight t → w ≡ letter_weight t x
weight-zero t x w c there zero_is is =
    is ∙ (ap (made_weight t) (sym zero_is) ∙ weight_made t x c there)

-- the arrows of one index of a type
abbrev lowered : Kind → ℕ → ℕ → ℤ → Option ℤ
lowered k r i x = target int_eq (near_edges k r i) i x

abbrev raised : Kind → ℕ → ℕ → ℤ → Option ℤ
raised k r i x = origin int_eq (near_edges k r i) i x

abbrev phi_of : Kind → ℕ → ℕ → ℤ → ℕ
phi_of k r i x = steps_of (is_long k r i && lt_z (pos 0) x) (lowered k r i x)

abbrev eps_of : Kind → ℕ → ℕ → ℤ → ℕ
eps_of k r i x = steps_of (is_long k r i && lt_z x (pos 0)) (raised k r i x)

abbrev back_cell : Kind → ℕ → ℕ → ℤ → Bool
back_cell k r i x =
    if_some (λ y. option_eq int_eq (raised k r i y) (Some x)) (lowered k r i x) && if_some (λ y. option_eq int_eq (lowered k r i y) (Some x)) (raised k r i x)

back_rows : (k : Kind) → all_cells back_cell k ≡ true
back_rows A = refl
back_rows B = refl
back_rows C = refl
back_rows D = refl

abbrev count_cell : Kind → ℕ → ℕ → ℤ → Bool
count_cell k r i x = if_some (λ y. (phi_of k r i x == phi_of k r i y + 1) && (eps_of k r i y == eps_of k r i x + 1)) (lowered k r i x)

count_rows : (k : Kind) → all_cells count_cell k ≡ true
count_rows A = refl
count_rows B = refl
count_rows C = refl
count_rows D = refl

abbrev difference : ℕ → ℕ → ℤ
difference m n = pos m -ℤ pos n

abbrev balance_cell : Kind → ℕ → ℕ → ℤ → Bool
balance_cell k r i x =
    int_eq (difference (phi_of k r i x) (eps_of k r i x) +ℤ difference (phi_of k r i x) (eps_of k r i x)) (twice_pairing (type_of k r) (letter_weight (type_of k r) x) i)

balance_rows : (k : Kind) → all_cells balance_cell k ≡ true
unfolding letter_weight twice_pairing
balance_rows A = refl
balance_rows B = refl
balance_rows C = refl
balance_rows D = refl

abbrev fall_cell : Kind → ℕ → ℕ → ℤ → Bool
fall_cell k r i x =
    if_some (λ y. same_list (letter_weight (type_of k r) y) (difference_of (letter_weight (type_of k r) x) (root (type_of k r) i))) (lowered k r i x)

fall_rows : (k : Kind) → all_cells fall_cell k ≡ true
unfolding letter_weight root
fall_rows A = refl
fall_rows B = refl
fall_rows C = refl
fall_rows D = refl

some_letter_at : (t : CartanType) (o : Option ℤ) (y : ℤ) → IfSome o (IsLetter t) → o ≡ Some y → IsLetter t y
some_letter_at t o y there is = rw is at there

steps-none : (second : Bool) (o : Option ℤ) → (o ≡ None) ↔ (steps_of second o ≡ 0)
steps-none second None = (λ _. refl, λ _. refl)
steps-none true (Some y) = (λ h. cc, λ h. absurd (omega arith))
steps-none false (Some y) = (λ h. cc, λ h. absurd (omega arith))

unit_coordinate : (plus minus : Bool) → IsWithin 2 (if plus then pos 2 else if minus then negsuc 1 else pos 0)
unit_coordinate true minus = (omega (arith, ints), omega (arith, ints))
unit_coordinate false true = (omega (arith, ints), omega (arith, ints))
unit_coordinate false false = (omega (arith, ints), omega (arith, ints))

pub weight-small : (t : CartanType) (x : ℤ) → All (IsWithin 2) (letter_weight t x)
unfolding letter_weight
weight-small t x =
    All-map (IsWithin 2) (λ (j : ℕ). if int_eq x (pos j) then pos 2 else if int_eq x (barred j) then negsuc 1 else pos 0) (range_with_len 1 (coordinates t))
    (λ k d low. unit_coordinate (int_eq x (pos (slice_index_or (range_with_len 1 (coordinates t)) k d))) (int_eq x (barred (slice_index_or (range_with_len 1 (coordinates t)) k d))))

phi_rule : (t : CartanType) (i : ℕ) (x : ℤ) → IsCartan t → HasIndex t i → IsLetter t x → (letter_action t i).phi x ≡ phi_of t.kind t.rank i x
phi_rule t i x c index there =
    phi_near t i x c index there ∙ ap (steps_of (is_long t.kind t.rank i && lt_z (pos 0) x)) (lower_near t i x c index there)

eps_rule : (t : CartanType) (i : ℕ) (x : ℤ) → IsCartan t → HasIndex t i → IsLetter t x → (letter_action t i).eps x ≡ eps_of t.kind t.rank i x
eps_rule t i x c index there =
    eps_near t i x c index there ∙ ap (steps_of (is_long t.kind t.rank i && lt_z x (pos 0))) (raise_near t i x c index there)

raised_back : (t : CartanType) (i : ℕ) (x y : ℤ) → IsCartan t → HasIndex t i → IsLetter t x → (letter_action t i).lower x ≡ Some y → (letter_action t i).raise y ≡ Some x
raised_back t i x y c index there is =
    let other = some_letter_at t _ y (lower-letter t i x c index there) is in
    let row = first_true _ _ (cells_at back_cell back_rows t i x c index there) in
    raise_near t i y c index other ∙ option_eq-true _ _ (some_at (λ z. option_eq int_eq (raised t.kind t.rank i z) (Some x)) (lowered t.kind t.rank i x) y row (sym (lower_near t i x c index there) ∙ is))

lowered_back : (t : CartanType) (i : ℕ) (x y : ℤ) → IsCartan t → HasIndex t i → IsLetter t x → (letter_action t i).raise x ≡ Some y → (letter_action t i).lower y ≡ Some x
lowered_back t i x y c index there is =
    let other = some_letter_at t _ y (raise-letter t i x c index there) is in
    let row = second_true _ _ (cells_at back_cell back_rows t i x c index there) in
    lower_near t i y c index other ∙ option_eq-true _ _ (some_at (λ z. option_eq int_eq (lowered t.kind t.rank i z) (Some x)) (raised t.kind t.rank i x) y row (sym (raise_near t i x c index there) ∙ is))

lower_counts : (t : CartanType) (i : ℕ) (x y : ℤ) → IsCartan t → HasIndex t i → IsLetter t x → (letter_action t i).lower x ≡ Some y
    → ((letter_action t i).phi x ≡ (letter_action t i).phi y + 1) × ((letter_action t i).eps y ≡ (letter_action t i).eps x + 1)
lower_counts t i x y c index there is =
    let other = some_letter_at t _ y (lower-letter t i x c index there) is in
    let row = some_at (λ z. (phi_of t.kind t.rank i x == phi_of t.kind t.rank i z + 1) && (eps_of t.kind t.rank i z == eps_of t.kind t.rank i x + 1)) (lowered t.kind t.rank i x) y
    (cells_at count_cell count_rows t i x c index there) (sym (lower_near t i x c index there) ∙ is) in (
      phi_rule t i x c index there ∙ (eqb-true _ _ (first_true _ _ row) ∙ ap (λ n. n + 1) (sym (phi_rule t i y c index other))),
      eps_rule t i y c index other ∙ (eqb-true _ _ (second_true _ _ row) ∙ ap (λ n. n + 1) (sym (eps_rule t i x c index there))),
    )

pub letter_seminormal : (t : CartanType) (i : ℕ) (x : ℤ) → IsCartan t → HasIndex t i → IsLetter t x
    → IsSeminormal t i (letter_action t i) (letter_weight t) x
letter_seminormal t i x c index there = record {
  raised_back = λ y is. raised_back t i x y c index there is;
  lowered_back = λ y is. lowered_back t i x y c index there is;
  lower_ends =
      let ends = steps-none (is_long t.kind t.rank i && lt_z (pos 0) x) ((letter_action t i).lower x) in
      let rule = phi_near t i x c index there in
      (λ h. rule ∙ ends.0 h, λ h. ends.1 (sym rule ∙ h));
  raise_ends =
      let ends = steps-none (is_long t.kind t.rank i && lt_z x (pos 0)) ((letter_action t i).raise x) in
      let rule = eps_near t i x c index there in
      (λ h. rule ∙ ends.0 h, λ h. ends.1 (sym rule ∙ h));
  lower_counts = λ y is. lower_counts t i x y c index there is;
  raise_counts = λ y is.
      let other = some_letter_at t _ y (raise-letter t i x c index there) is in
      let counts = lower_counts t i y x c index other (lowered_back t i x y c index there is) in
      (counts.1, counts.0);
  balanced =
      rw (phi_rule t i x c index there, eps_rule t i x c index there) (int_eq-true _ _ (cells_at balance_cell balance_rows t i x c index there));
  weight_falls = λ y is.
      same_list-true _ _ (some_at (λ z. same_list (letter_weight t z) (difference_of (letter_weight t x) (root t i))) (lowered t.kind t.rank i x) y
      (cells_at fall_cell fall_rows t i x c index there) (sym (lower_near t i x c index there) ∙ is));
}

mapped_some : (f : ℤ → ℕ) (o : Option ℤ) (e : ℕ) → option_map f o ≡ Some e → (y : ℤ) × (o ≡ Some y) × (f y ≡ e)
mapped_some f None e is = cc
mapped_some f (Some y) e is = (y, refl, cc)

mapped_none : (f : ℤ → ℕ) (o : Option ℤ) → (o ≡ None) ↔ (option_map f o ≡ None)
mapped_none f None = (λ _. refl, λ _. refl)
mapped_none f (Some y) = (λ h. cc, λ h. cc)

-- a digit that an operator leads to is that of a letter
carried_to : (t : CartanType) (o : Option ℤ) (e : ℕ) → IsCartan t → IfSome o (IsLetter t) → option_map (letter_digit t) o ≡ Some e → o ≡ Some (letter_at t e)
carried_to t o e c there is =
    let from = mapped_some (letter_digit t) o e is in
    from.1 ∙ ap Some (sym (letter_at-letter_digit t from.0 c (some_letter_at t o from.0 there from.1)) ∙ ap (letter_at t) from.2)

pub digit_seminormal : (t : CartanType) (i d : ℕ) → IsCartan t → HasIndex t i → d < letter_count t
    → IsSeminormal t i (digit_action t i) (λ e. letter_weight t (letter_at t e)) d
unfolding digit_action
digit_seminormal t i d c index low =
    let act : Action ℤ = letter_action t i in
    let there = letter_at-letter t d c low in
    let laws = letter_seminormal t i (letter_at t d) c index there in
    let lowers = lower-letter t i (letter_at t d) c index there in
    let raises = raise-letter t i (letter_at t d) c index there in
    let back : option_map (letter_digit t) (Some (letter_at t d)) ≡ Some d = ap Some (letter_digit-letter_at t d c low) in
    record {
      raised_back = λ e is. ap (option_map (letter_digit t)) (laws.raised_back (letter_at t e) (carried_to t (act.lower (letter_at t d)) e c lowers is)) ∙ back;
      lowered_back = λ e is. ap (option_map (letter_digit t)) (laws.lowered_back (letter_at t e) (carried_to t (act.raise (letter_at t d)) e c raises is)) ∙ back;
      lower_ends =
          let same = mapped_none (letter_digit t) (act.lower (letter_at t d)) in
          (λ h. laws.lower_ends.0 (same.1 h), λ h. same.0 (laws.lower_ends.1 h));
      raise_ends =
          let same = mapped_none (letter_digit t) (act.raise (letter_at t d)) in
          (λ h. laws.raise_ends.0 (same.1 h), λ h. same.0 (laws.raise_ends.1 h));
      lower_counts = λ e is. laws.lower_counts (letter_at t e) (carried_to t (act.lower (letter_at t d)) e c lowers is);
      raise_counts = λ e is. laws.raise_counts (letter_at t e) (carried_to t (act.raise (letter_at t d)) e c raises is);
      balanced = laws.balanced;
      weight_falls = λ e is. laws.weight_falls (letter_at t e) (carried_to t (act.lower (letter_at t d)) e c lowers is);
    }

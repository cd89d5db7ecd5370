-- The rule of the operators: only the arrows of the index count, and no string is longer than two.
use Rattle.std.proofs.Common.{◌≡◌, ℕ, zero, suc, ◌≤◌, ◌<◌, Bool, true, false, nat_lt, ◌==◌, if◌then◌else◌, List, length, ℤ, pos, ◌<ℤ◌, ◌&&◌, Option, Some, None, arith, refl, sym, ap, ◌∙◌, int_eq}
use Rattle.std.specs.Option.{option_eq, option_map, IfSome}
use Rattle.std.specs.Int.Signed.{lt_z}
use Rattle.std.proofs.lemmas.Bool.{eqb-true}
use Rattle.std.proofs.lemmas.Bool.Decides.{nat_tests}
use Rattle.std.proofs.lemmas.Int.{ints}
use Rattle.list_facts.proofs.Truth.{first_true, second_true}
use Rattle.crystal_cartan.specs.Types.{CartanType, IsCartan, HasIndex}
use Rattle.crystal_cartan.specs.Crystals.{Edge, target, origin, times_taken}
use Rattle.crystal_cartan.specs.declared.types.Kind.{Kind}
use Rattle.crystal_cartan.specs.declared.types.Kind.TheVariants.{A, B, C, D}
use Rattle.vector_crystals.specs.Letters.{letters, letters_of, IsLetter}
use Rattle.vector_crystals.specs.VectorCrystals.{first_edges, last_edges, vector_edges_of, vector_edges, letter_action}
use Rattle.vector_crystals.specs.declared.letters.Letter.{Letter}
use Rattle.vector_crystals.proofs.Tables.{has, has-contains, if_some, all_cells, cells_at, option_eq-true}

-- the arrows of the index i
abbrev pub near_edges : Kind → ℕ → ℕ → List (Edge ℤ)
near_edges k r i = if nat_lt i r then first_edges k i else last_edges k r

abbrev lower_cell : Kind → ℕ → ℕ → ℤ → Bool
lower_cell k r i x = option_eq int_eq (target int_eq (vector_edges_of k r) i x) (target int_eq (near_edges k r i) i x)

lower_rows : (k : Kind) → all_cells lower_cell k ≡ true
lower_rows A = refl
lower_rows B = refl
lower_rows C = refl
lower_rows D = refl

abbrev raise_cell : Kind → ℕ → ℕ → ℤ → Bool
raise_cell k r i x = option_eq int_eq (origin int_eq (vector_edges_of k r) i x) (origin int_eq (near_edges k r i) i x)

raise_rows : (k : Kind) → all_cells raise_cell k ≡ true
raise_rows A = refl
raise_rows B = refl
raise_rows C = refl
raise_rows D = refl

-- the operators lead from letters to letters
abbrev letter_cell : Kind → ℕ → ℕ → ℤ → Bool
letter_cell k r i x =
    if_some (has (letters_of k r)) (target int_eq (near_edges k r i) i x) && if_some (has (letters_of k r)) (origin int_eq (near_edges k r i) i x)

letter_rows : (k : Kind) → all_cells letter_cell k ≡ true
letter_rows A = refl
letter_rows B = refl
letter_rows C = refl
letter_rows D = refl

-- whether the strings of the index have three letters: r, 0 and r with a bar in B_r
abbrev pub is_long : Kind → ℕ → ℕ → Bool
is_long A r i = false
is_long B r i = i == r
is_long C r i = false
is_long D r i = false

-- how many steps there are, if a second one is there just where the test says so
abbrev pub steps_of : Bool → Option ℤ → ℕ
steps_of second None = 0
steps_of second (Some y) = if second then 2 else 1

abbrev phi_cell : Kind → ℕ → ℕ → ℤ → Bool
phi_cell k r i x =
    times_taken (target int_eq (vector_edges_of k r) i) (length (vector_edges_of k r)) x == steps_of (is_long k r i && lt_z (pos 0) x) (target int_eq (near_edges k r i) i x)

phi_rows : (k : Kind) → all_cells phi_cell k ≡ true
phi_rows A = refl
phi_rows B = refl
phi_rows C = refl
phi_rows D = refl

abbrev eps_cell : Kind → ℕ → ℕ → ℤ → Bool
eps_cell k r i x =
    times_taken (origin int_eq (vector_edges_of k r) i) (length (vector_edges_of k r)) x == steps_of (is_long k r i && lt_z x (pos 0)) (origin int_eq (near_edges k r i) i x)

eps_rows : (k : Kind) → all_cells eps_cell k ≡ true
eps_rows A = refl
eps_rows B = refl
eps_rows C = refl
eps_rows D = refl

near_first : (k : Kind) (r i : ℕ) → i < r → near_edges k r i ≡ first_edges k i
near_first k r i low = grind (arith, nat_tests)

near_last : (k : Kind) (r i : ℕ) → r ≤ i → i ≤ r → near_edges k r i ≡ last_edges k i
near_last k r i low high = grind (arith, nat_tests)

pub lower_near : (t : CartanType) (i : ℕ) (x : ℤ) → IsCartan t → HasIndex t i → IsLetter t x
    → (letter_action t i).lower x ≡ target int_eq (near_edges t.kind t.rank i) i x
unfolding letter_action vector_edges
lower_near t i x c index there = option_eq-true _ _ (cells_at lower_cell lower_rows t i x c index there)

pub raise_near : (t : CartanType) (i : ℕ) (x : ℤ) → IsCartan t → HasIndex t i → IsLetter t x
    → (letter_action t i).raise x ≡ origin int_eq (near_edges t.kind t.rank i) i x
unfolding letter_action vector_edges
raise_near t i x c index there = option_eq-true _ _ (cells_at raise_cell raise_rows t i x c index there)

pub lower_first : (t : CartanType) (i : ℕ) (x : ℤ) (k : Kind) → IsCartan t → HasIndex t i → IsLetter t x → k ≡ t.kind → i < t.rank
    → target int_eq (first_edges k i) i x ≡ (letter_action t i).lower x
lower_first t i x k c index there same low =
    rw same (ap (λ (es : List (Edge ℤ)). target int_eq es i x) (sym (near_first t.kind t.rank i low)) ∙ sym (lower_near t i x c index there))

pub lower_last : (t : CartanType) (i : ℕ) (x : ℤ) (k : Kind) → IsCartan t → HasIndex t i → IsLetter t x → k ≡ t.kind → t.rank ≤ i
    → target int_eq (last_edges k i) i x ≡ (letter_action t i).lower x
lower_last t i x k c index there same last =
    rw same (ap (λ (es : List (Edge ℤ)). target int_eq es i x) (sym (near_last t.kind t.rank i last index.high)) ∙ sym (lower_near t i x c index there))

pub raise_first : (t : CartanType) (i : ℕ) (x : ℤ) (k : Kind) → IsCartan t → HasIndex t i → IsLetter t x → k ≡ t.kind → i < t.rank
    → origin int_eq (first_edges k i) i x ≡ (letter_action t i).raise x
raise_first t i x k c index there same low =
    rw same (ap (λ (es : List (Edge ℤ)). origin int_eq es i x) (sym (near_first t.kind t.rank i low)) ∙ sym (raise_near t i x c index there))

pub raise_last : (t : CartanType) (i : ℕ) (x : ℤ) (k : Kind) → IsCartan t → HasIndex t i → IsLetter t x → k ≡ t.kind → t.rank ≤ i
    → origin int_eq (last_edges k i) i x ≡ (letter_action t i).raise x
raise_last t i x k c index there same last =
    rw same (ap (λ (es : List (Edge ℤ)). origin int_eq es i x) (sym (near_last t.kind t.rank i last index.high)) ∙ sym (raise_near t i x c index there))

some_letter : (t : CartanType) (o : Option ℤ) → if_some (has (letters_of t.kind t.rank)) o ≡ true → IfSome o (IsLetter t)
unfolding letters
some_letter t None h = tt
some_letter t (Some y) h = has-contains (letters_of t.kind t.rank) y h

pub lower-letter : (t : CartanType) (i : ℕ) (x : ℤ) → IsCartan t → HasIndex t i → IsLetter t x → IfSome ((letter_action t i).lower x) (IsLetter t)
lower-letter t i x c index there =
    rw (lower_near t i x c index there) (some_letter t _ (first_true _ _ (cells_at letter_cell letter_rows t i x c index there)))

pub raise-letter : (t : CartanType) (i : ℕ) (x : ℤ) → IsCartan t → HasIndex t i → IsLetter t x → IfSome ((letter_action t i).raise x) (IsLetter t)
raise-letter t i x c index there =
    rw (raise_near t i x c index there) (some_letter t _ (second_true _ _ (cells_at letter_cell letter_rows t i x c index there)))

pub is_letter_result : (t : CartanType) (result : Option Letter) (value : Option ℤ) → option_map (λ y. y.0) result ≡ value → IfSome value (IsLetter t) → IfSome result (λ y. IsLetter t y.0)
is_letter_result t None value is there = tt
is_letter_result t (Some y) value is there = rw (sym is) at there

pub phi_near : (t : CartanType) (i : ℕ) (x : ℤ) → IsCartan t → HasIndex t i → IsLetter t x
    → (letter_action t i).phi x ≡ steps_of (is_long t.kind t.rank i && lt_z (pos 0) x) ((letter_action t i).lower x)
unfolding letter_action vector_edges
phi_near t i x c index there = eqb-true _ _ (cells_at phi_cell phi_rows t i x c index there) ∙ ap (steps_of (is_long t.kind t.rank i && lt_z (pos 0) x)) (sym (lower_near t i x c index there))

pub eps_near : (t : CartanType) (i : ℕ) (x : ℤ) → IsCartan t → HasIndex t i → IsLetter t x
    → (letter_action t i).eps x ≡ steps_of (is_long t.kind t.rank i && lt_z x (pos 0)) ((letter_action t i).raise x)
unfolding letter_action vector_edges
eps_near t i x c index there = eqb-true _ _ (cells_at eps_cell eps_rows t i x c index there) ∙ ap (steps_of (is_long t.kind t.rank i && lt_z x (pos 0))) (sym (raise_near t i x c index there))

none_taken : (step : ℤ → Option ℤ) (n : ℕ) (x : ℤ) → step x ≡ None → times_taken step n x ≡ 0
none_taken step zero x none = refl
none_taken step (suc n) x none = rw none refl

pub phi_none : (t : CartanType) (i : ℕ) (x : ℤ) (result : Option Letter) → result ≡ None
    → option_map (λ y. y.0) result ≡ (letter_action t i).lower x → 0 ≡ (letter_action t i).phi x
unfolding letter_action
phi_none t i x result none is = sym (none_taken (target int_eq (vector_edges t) i) (length (vector_edges t)) x (sym is ∙ ap (option_map (λ y. y.0)) none))

pub eps_none : (t : CartanType) (i : ℕ) (x : ℤ) (result : Option Letter) → result ≡ None
    → option_map (λ y. y.0) result ≡ (letter_action t i).raise x → 0 ≡ (letter_action t i).eps x
unfolding letter_action
eps_none t i x result none is = sym (none_taken (origin int_eq (vector_edges t) i) (length (vector_edges t)) x (sym is ∙ ap (option_map (λ y. y.0)) none))

long_true : (t : CartanType) (i : ℕ) → t.kind ≡ B → i ≡ t.rank → is_long t.kind t.rank i ≡ true
long_true t i kind last = rw kind (grind (arith, nat_tests))

long_only : (k : Kind) (r i : ℕ) → is_long k r i ≡ true → (k ≡ B) × (i ≡ r)
long_only A r i h = cc
long_only B r i h = (refl, eqb-true i r h)
long_only C r i h = cc
long_only D r i h = cc

not_both : (a b : Bool) → (a ≡ true → b ≡ true → ⊥) → (a && b) ≡ false
not_both true true h = absurd (h refl refl)
not_both true false h = refl
not_both false b h = refl

below_from_test : (x y : ℤ) → lt_z x y ≡ true → x <ℤ y
below_from_test x y h = grind (arith, ints)

test_from_below : (x y : ℤ) → x <ℤ y → lt_z x y ≡ true
test_from_below x y h = grind (arith, ints)

pub phi_long : (t : CartanType) (i : ℕ) (x : ℤ) (result : Option Letter) (y : Letter) → IsCartan t → HasIndex t i → IsLetter t x
    → result ≡ Some y → option_map (λ y. y.0) result ≡ (letter_action t i).lower x → (t.kind ≡ B) × (i ≡ t.rank) → pos 0 <ℤ x
    → 2 ≡ (letter_action t i).phi x
phi_long t i x result y c index there some is long sign =
    let step : (letter_action t i).lower x ≡ Some y.0 = sym is ∙ ap (option_map (λ z. z.0)) some in
    let twice : (is_long t.kind t.rank i && lt_z (pos 0) x) ≡ true = rw (long_true t i long.0 long.1) (test_from_below (pos 0) x sign) in
    sym (phi_near t i x c index there ∙ rw (step, twice) refl)

pub phi_short : (t : CartanType) (i : ℕ) (x : ℤ) (result : Option Letter) (y : Letter) → IsCartan t → HasIndex t i → IsLetter t x
    → result ≡ Some y → option_map (λ y. y.0) result ≡ (letter_action t i).lower x → ((t.kind ≡ B) × (i ≡ t.rank) → pos 0 <ℤ x → ⊥)
    → 1 ≡ (letter_action t i).phi x
phi_short t i x result y c index there some is short =
    let step : (letter_action t i).lower x ≡ Some y.0 = sym is ∙ ap (option_map (λ z. z.0)) some in
    let once : (is_long t.kind t.rank i && lt_z (pos 0) x) ≡ false = not_both _ _ (λ long sign. short (long_only t.kind t.rank i long) (below_from_test (pos 0) x sign)) in
    sym (phi_near t i x c index there ∙ rw (step, once) refl)

pub eps_long : (t : CartanType) (i : ℕ) (x : ℤ) (result : Option Letter) (y : Letter) → IsCartan t → HasIndex t i → IsLetter t x
    → result ≡ Some y → option_map (λ y. y.0) result ≡ (letter_action t i).raise x → (t.kind ≡ B) × (i ≡ t.rank) → x <ℤ pos 0
    → 2 ≡ (letter_action t i).eps x
eps_long t i x result y c index there some is long sign =
    let step : (letter_action t i).raise x ≡ Some y.0 = sym is ∙ ap (option_map (λ z. z.0)) some in
    let twice : (is_long t.kind t.rank i && lt_z x (pos 0)) ≡ true = rw (long_true t i long.0 long.1) (test_from_below x (pos 0) sign) in
    sym (eps_near t i x c index there ∙ rw (step, twice) refl)

pub eps_short : (t : CartanType) (i : ℕ) (x : ℤ) (result : Option Letter) (y : Letter) → IsCartan t → HasIndex t i → IsLetter t x
    → result ≡ Some y → option_map (λ y. y.0) result ≡ (letter_action t i).raise x → ((t.kind ≡ B) × (i ≡ t.rank) → x <ℤ pos 0 → ⊥)
    → 1 ≡ (letter_action t i).eps x
eps_short t i x result y c index there some is short =
    let step : (letter_action t i).raise x ≡ Some y.0 = sym is ∙ ap (option_map (λ z. z.0)) some in
    let once : (is_long t.kind t.rank i && lt_z x (pos 0)) ≡ false = not_both _ _ (λ long sign. short (long_only t.kind t.rank i long) (below_from_test x (pos 0) sign)) in
    sym (eps_near t i x c index there ∙ rw (step, once) refl)

-- Raising leads to a smaller digit.
use Rattle.std.proofs.Common.{◌≡◌, ◌∙◌, sym, ap, refl, subst, ℕ, zero, suc, ◌+◌, ◌-◌, ◌≤◌, ◌<◌, ◌^◌, min, nat_lt, Bool, true, false, List, [], ◌∷◌, ◌++◌, length, take, ℤ, int_eq, Some, None, arith, length-append}
use Rattle.std.specs.List.{position_or_len}
use Rattle.std.specs.Option.{option_map}
use Rattle.std.proofs.lemmas.Bool.Decides.{nat_tests}
use Rattle.std.proofs.lemmas.List.{length-take, take_all}
use Rattle.crystal_cartan.specs.Types.{CartanType, IsCartan, HasIndex}
use Rattle.crystal_cartan.specs.Crystals.{origin}
use Rattle.crystal_cartan.specs.declared.types.Kind.{Kind}
use Rattle.crystal_cartan.specs.declared.types.Kind.TheVariants.{A, B, C, D}
use Rattle.vector_crystals.specs.Letters.{letters_of, letters, letter_count, letter_at, letter_digit, IsLetter}
use Rattle.vector_crystals.specs.VectorCrystals.{letter_action, digit_action}
use Rattle.vector_crystals.proofs.Tables.{if_some, all_cells, cells_at}
use Rattle.vector_crystals.proofs.Rules.{near_edges, raise_near}
use Rattle.vector_crystals.proofs.Digits.{letter_at-letter, letter_digit-letter_at}
use Rattle.spin_crystals.specs.Signs.{plus, minus, HasHalf, half_size, number_of_signs, signs_at, signs_digit}
use Rattle.spin_crystals.specs.SpinCrystals.{signs_action, spin_digit_action}
use Rattle.spin_crystals.specs.declared.signs.Half.{Half}
use Rattle.spin_crystals.specs.declared.signs.Half.TheVariants.{Whole, Plus, Minus}
use Rattle.spin_crystals.proofs.DigitLaws.{spin_from_half, number_below}
use Rattle.spin_crystals.proofs.Edges.{change, changed, last_change, raise-change}
use Rattle.spin_crystals.proofs.Places.{signs_digit-at, length-signs_at}
use Rattle.spin_crystals.proofs.Strings.{IsReplacement, replaced_some}

-- ---- letters

abbrev place_of : Kind → ℕ → ℤ → ℕ
place_of k r x = position_or_len (λ y. int_eq y x) (letters_of k r)

abbrev falls_cell : Kind → ℕ → ℕ → ℤ → Bool
falls_cell k r i x = if_some (λ y. nat_lt (place_of k r y) (place_of k r x)) (origin int_eq (near_edges k r i) i x)

falls_rows : (k : Kind) → all_cells falls_cell k ≡ true
falls_rows A = refl
falls_rows B = refl
falls_rows C = refl
falls_rows D = refl

letter_falls : (t : CartanType) (i : ℕ) (x y : ℤ) → IsCartan t → HasIndex t i → IsLetter t x → (letter_action t i).raise x ≡ Some y → letter_digit t y < letter_digit t x
unfolding letters
letter_falls t i x y c index there is =
    let near : origin int_eq (near_edges t.kind t.rank i) i x ≡ Some y = sym (raise_near t i x c index there) ∙ is in
    let row = cells_at falls_cell falls_rows t i x c index there in
    let test : nat_lt (place_of t.kind t.rank y) (place_of t.kind t.rank x) ≡ true = rw near at row in
    grind (arith, nat_tests)

pub vector_raise_falls : (t : CartanType) (i d e : ℕ) → IsCartan t → HasIndex t i → d < letter_count t → (digit_action t i).raise d ≡ Some e → e < d
unfolding digit_action
vector_raise_falls t i d e c index below is =
    elim ((letter_action t i).raise (letter_at t d)) as (λ o. (letter_action t i).raise (letter_at t d) ≡ o → option_map (letter_digit t) o ≡ Some e → e < d) [
      | None ↦ λ none h. cc
      | Some y ↦ λ some h.
          let low = letter_falls t i (letter_at t d) y c index (letter_at-letter t d c below) some in
          let same : letter_digit t y ≡ e = cc in
          rw (same, letter_digit-letter_at t d c below) at low
    ] refl is

-- ---- vectors of signs

number_at_plus : (n : ℕ) (p q : List Bool) → length p ≡ length q → number_of_signs (take n (plus ∷ p)) ≤ number_of_signs (take n (minus ∷ q))
number_at_plus zero p q size = omega arith
number_at_plus (suc n) p q size =
    let same : length (take n p) ≡ length (take n q) = simp length-take (ap (min n) size) in
    let low : number_of_signs (take n p) < 2 ^ length (take n q) = subst (λ k. number_of_signs (take n p) < 2 ^ k) same (number_below (take n p)) in
    omega arith

number_behind : (n : ℕ) (u p q : List Bool) → length p ≡ length q
    → number_of_signs (take n (u ++ plus ∷ p)) ≤ number_of_signs (take n (u ++ minus ∷ q))
number_behind n [] p q size = number_at_plus n p q size
number_behind zero (s ∷ u) p q size = omega arith
number_behind (suc n) (s ∷ u) p q size =
    let same : length (take n (u ++ plus ∷ p)) ≡ length (take n (u ++ minus ∷ q)) = simp (length-take, length-append) (ap (λ k. min n (length u + suc k)) size) in
    let rest : number_of_signs (take n (u ++ plus ∷ p)) ≤ number_of_signs (take n (u ++ minus ∷ q)) = number_behind n u p q size in
    rw same (omega arith)

-- the part that lowering turns begins with a plus, which becomes a minus
record BeginsWith (old new : List Bool) : Type 0 where
  before : List Bool
  after : List Bool
  size : length before ≡ length after
  old_is : old ≡ plus ∷ before
  new_is : new ≡ minus ∷ after

change_begins : (t : CartanType) (i : ℕ) → BeginsWith (change t i).old (change t i).new
change_begins t i =
    elim (nat_lt i t.rank) as (λ b. BeginsWith (changed t i b).old (changed t i b).new) [
      | true ↦ record { before = minus ∷ []; after = plus ∷ []; size = refl; old_is = refl; new_is = refl }
      | false ↦ elim t.kind as (λ k. BeginsWith (last_change k t.rank).old (last_change k t.rank).new) [
        | A ↦ record { before = []; after = []; size = refl; old_is = refl; new_is = refl }
        | B ↦ record { before = []; after = []; size = refl; old_is = refl; new_is = refl }
        | C ↦ record { before = []; after = []; size = refl; old_is = refl; new_is = refl }
        | D ↦ record { before = plus ∷ []; after = minus ∷ []; size = refl; old_is = refl; new_is = refl }
      ]
    ]

raised_number : (t : CartanType) (i n : ℕ) (x y : List Bool) → IsReplacement (change t i).after (change t i).new (change t i).old x y
    → number_of_signs (take n y) ≤ number_of_signs (take n x)
raised_number t i n x y r =
    let h = change_begins t i in
    let size : length (h.before ++ r.behind) ≡ length (h.after ++ r.behind) = simp length-append (ap (λ k. k + length r.behind) h.size) in
    let above : x ≡ r.before ++ minus ∷ (h.after ++ r.behind) = r.source ∙ ap (λ p. r.before ++ (p ++ r.behind)) h.new_is in
    let below : y ≡ r.before ++ plus ∷ (h.before ++ r.behind) = r.target ∙ ap (λ p. r.before ++ (p ++ r.behind)) h.old_is in
    rw (above, below) (number_behind n r.before (h.before ++ r.behind) (h.after ++ r.behind) size)

-- the signs that the digit counts
abbrev counted : Half → ℕ → ℕ
counted Whole n = n
counted Plus n = n - 1
counted Minus n = n - 1

digit_counted : (half : Half) (v : List Bool) → signs_digit half v ≡ number_of_signs (take (counted half (length v)) v)
digit_counted Whole v = rw (take_all (length v) v (omega arith)) refl
digit_counted Plus v = refl
digit_counted Minus v = refl

replaced_size : (t : CartanType) (i : ℕ) (x y : List Bool) → IsReplacement (change t i).after (change t i).new (change t i).old x y → length y ≡ length x
replaced_size t i x y r =
    let h = change_begins t i in
    let first : length x ≡ length r.before + (suc (length h.after) + length r.behind) = ap length (r.source ∙ ap (λ p. r.before ++ (p ++ r.behind)) h.new_is) ∙ simp length-append in
    let second : length y ≡ length r.before + (suc (length h.before) + length r.behind) = ap length (r.target ∙ ap (λ p. r.before ++ (p ++ r.behind)) h.old_is) ∙ simp length-append in
    let same : length h.before ≡ length h.after = h.size in
    omega arith

-- the digit does not rise; that it is another one is known from the lengths of the strings
pub spin_raise_not_above : (t : CartanType) (half : Half) (i d e : ℕ) → IsCartan t → HasHalf t half → HasIndex t i → 1 ≤ t.rank → d < half_size half t.rank
    → (spin_digit_action t half i).raise d ≡ Some e → e ≤ d
unfolding spin_digit_action
spin_raise_not_above t half i d e c had index some below is =
    let x : List Bool = signs_at half t.rank d in
    let size : length x ≡ t.rank = length-signs_at half t.rank d some in
    elim ((signs_action t i).raise x) as (λ o. (signs_action t i).raise x ≡ o → option_map (signs_digit half) o ≡ Some e → e ≤ d) [
      | None ↦ λ none h. cc
      | Some y ↦ λ made h.
          let r : IsReplacement (change t i).after (change t i).new (change t i).old x y =
          replaced_some (change t i).after (change t i).new (change t i).old x y (sym (raise-change t i x c (spin_from_half t half had) index size) ∙ made) in
          let same : signs_digit half y ≡ e = cc in
          let low = raised_number t i (counted half (length x)) x y r in
          let digit_of_y : signs_digit half y ≡ number_of_signs (take (counted half (length x)) y) =
          digit_counted half y ∙ ap (λ n. number_of_signs (take (counted half n) y)) (replaced_size t i x y r) in
          let digit_of_x : d ≡ number_of_signs (take (counted half (length x)) x) = sym (signs_digit-at half t.rank d below) ∙ digit_counted half x in
          omega arith
    ] refl is

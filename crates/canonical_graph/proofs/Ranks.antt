-- Ranks of codes in an ascending list, and the ranks to which operators lead.
use Rattle.std.proofs.Common.{◌≡◌, ◌∙◌, refl, sym, ℕ, ◌<◌, ◌≤◌, ◌==◌, inl, inr, nat_lt, true, false, List, length, get_or, Option, None, Some, Ok, Err, Contains, arith}
use Rattle.std.specs.List.{position_or_len}
use Rattle.std.specs.List.Sorted.{IsStrictlyIncreasing, IsBinarySearchResult}
use Rattle.std.specs.Option.{option_and_then}
use Rattle.std.specs.Ordering.{nat_cmp}
use Rattle.std.proofs.lemmas.Bool.{cases_lt, lt-ltb, le-ltb, ne_eqb, eq-eqb, eqb-true}
use Rattle.std.proofs.lemmas.List.{get_or_default}
use Rattle.std.proofs.lemmas.List.Elements.{Contains-get_or}
use Rattle.std.proofs.lemmas.List.Kept.{AllPairs-from_increasing}
use Rattle.std.proofs.lemmas.List.Quantifiers.{position-Some}
use Rattle.std.proofs.lemmas.List.Sorted.{searched}
use Rattle.std.proofs.lemmas.List.Sums.{position_or_len_is}
use Rattle.crystal_cartan.specs.declared.types.Arrow.{Arrow}
use Rattle.tensor_words.specs.Spaces.{size}
use Rattle.tensor_words.specs.Operators.{IsArrow, op}
use Rattle.canonical_graph.specs.Graphs.{FinishedType, IsFinished, code_at, rank_in, target_rank}

not_falling : (xs : List ℕ) → IsStrictlyIncreasing xs → (i j : ℕ) → i ≤ j → j < length xs → get_or xs i 0 ≤ get_or xs j 0
not_falling xs up i j le lt = elim (cases_lt i j) [
  | inl less ↦ omega (arith, AllPairs-from_increasing xs up i j 0 less lt)
  | inr over ↦ let same : i ≡ j = omega arith in rw same (omega arith)
]

-- the rank of the code at a place is that place
pub rank_of_place : (xs : List ℕ) (i x : ℕ) → IsStrictlyIncreasing xs → i < length xs → get_or xs i 0 ≡ x → rank_in xs x ≡ Some i
rank_of_place xs i x up lt is =
    let place : position_or_len (λ c. c == x) xs ≡ i =
    position_or_len_is (λ c. c == x) xs i 0 (omega arith)
    (λ k before. ne_eqb (get_or xs k 0) x (λ same. omega (arith, AllPairs-from_increasing xs up k i 0 before lt)))
    (λ here. eq-eqb (get_or xs i 0) x is) in
    let inside : nat_lt i (length xs) ≡ true = lt-ltb i (length xs) lt in
    rw (place, inside) refl

-- a code that is nowhere has no rank
pub rank_of_none : (xs : List ℕ) (x : ℕ) → ((k : ℕ) → k < length xs → get_or xs k 0 ≡ x → ⊥) → rank_in xs x ≡ None
rank_of_none xs x nowhere =
    let place : position_or_len (λ c. c == x) xs ≡ length xs =
    position_or_len_is (λ c. c == x) xs (length xs) 0 (omega arith)
    (λ k before. ne_eqb (get_or xs k 0) x (nowhere k before))
    (λ here. absurd (omega arith)) in
    let outside : nat_lt (length xs) (length xs) ≡ false = le-ltb (length xs) (length xs) (omega arith) in
    rw (place, outside) refl

-- the code at a rank
pub place_of_rank : (xs : List ℕ) (x k : ℕ) → rank_in xs x ≡ Some k → (k < length xs) × (get_or xs k 0 ≡ x)
place_of_rank xs x k is =
    let found = position-Some (λ c. c == x) xs k 0 is in
    (found.0, eqb-true (get_or xs k 0) x found.1)

pub found_rank : (xs : List ℕ) (x i : ℕ) → IsStrictlyIncreasing xs → IsBinarySearchResult (λ y. nat_cmp y x) xs (Ok i) → Some i ≡ rank_in xs x
found_rank xs x i up is =
    let found = searched xs x (Ok i) is (not_falling xs up) in
    sym (rank_of_place xs i x up found.0 found.1)

pub missing_rank : (xs : List ℕ) (x i : ℕ) → IsStrictlyIncreasing xs → IsBinarySearchResult (λ y. nat_cmp y x) xs (Err i) → None ≡ rank_in xs x
missing_rank xs x i up is =
    let missing = searched xs x (Err i) is (not_falling xs up) in
    sym (rank_of_none xs x (λ k lt same. elim (cases_lt k i) [
      | inl before ↦ omega (arith, missing.1 k before)
      | inr after ↦ omega (arith, missing.2 k after lt)
    ]))

-- the code of a vertex is listed
pub listed_code : (f : FinishedType) (rank : ℕ) → rank < length f.codes → Contains f.codes (code_at f rank)
listed_code f rank lt = Contains-get_or f.codes rank 0 lt

pub code_below : (f : FinishedType) (rank : ℕ) → IsFinished f → rank < length f.codes → code_at f rank < size f.space
code_below f rank finished lt = finished.below rank 0 lt

-- the rank of a vertex's code is the vertex's rank
pub rank_of_code : (f : FinishedType) (rank : ℕ) → IsFinished f → rank < length f.codes → rank_in f.codes (code_at f rank) ≡ Some rank
rank_of_code f rank finished lt = rank_of_place f.codes rank (code_at f rank) finished.ascending lt refl

-- a listed code has a rank
pub rank_of_listed : (xs : List ℕ) (x : ℕ) → IsStrictlyIncreasing xs → Contains xs x → (k : ℕ) × (rank_in xs x ≡ Some k)
rank_of_listed xs x up (k, lt, is) = (k, rank_of_place xs k x up lt (get_or_default xs k 0 x lt ∙ is))

-- operators lead to vertices
pub target_below : (f : FinishedType) (rank : ℕ) (a : Arrow) (t : ℕ) → target_rank f rank a ≡ Some t → t < length f.codes
unfolding target_rank
target_below f rank a t is = by (op f.space a (code_at f rank)) is
  where
    by : (o : Option ℕ) → option_and_then (rank_in f.codes) o ≡ Some t → t < length f.codes
    by None none = cc
    by (Some d) some = (place_of_rank f.codes d t some).0

-- there is no target exactly where the operator gives zero; else it is the rank of what the operator gives
pub target_of_zero : (f : FinishedType) (rank : ℕ) (a : Arrow) → op f.space a (code_at f rank) ≡ None → target_rank f rank a ≡ None
unfolding target_rank
target_of_zero f rank a zero_is = rw zero_is refl

pub target_of_some : (f : FinishedType) (rank : ℕ) (a : Arrow) (d : ℕ) → IsFinished f → rank < length f.codes → IsArrow f.space a
    → op f.space a (code_at f rank) ≡ Some d → (t : ℕ) × (target_rank f rank a ≡ Some t) × (t < length f.codes) × (code_at f t ≡ d)
unfolding target_rank
target_of_some f rank a d finished lt fits leads =
    let there : Contains f.codes d = finished.closed a (code_at f rank) d (Contains-get_or f.codes rank 0 lt) fits leads in
    let found = rank_of_listed f.codes d finished.ascending there in
    let at = place_of_rank f.codes d found.0 found.1 in
    (found.0, rw leads found.1, at.0, at.1)

pub zero_of_target : (f : FinishedType) (rank : ℕ) (a : Arrow) → IsFinished f → rank < length f.codes → IsArrow f.space a
    → target_rank f rank a ≡ None → op f.space a (code_at f rank) ≡ None
zero_of_target f rank a finished lt fits none =
    elim (op f.space a (code_at f rank)) as (λ o. op f.space a (code_at f rank) ≡ o → o ≡ None) [
      | None ↦ λ is. refl
      | Some d ↦ λ is.
          let found = target_of_some f rank a d finished lt fits is in
          let wrong : target_rank f rank a ≡ Some found.0 = found.1 in
          cc
    ] refl

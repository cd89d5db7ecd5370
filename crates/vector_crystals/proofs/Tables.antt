-- From a test that was computed at every type, index and letter to the test at any one of them.
use Rattle.std.proofs.Common.{◌≡◌, ℕ, zero, suc, ◌+◌, ◌-◌, ◌<◌, Bool, true, false, ◌&&◌, ◌||◌, nat_lt, List, [], ◌∷◌, Contains, ℤ, Option, Some, None, arith, refl, ap, subst, int_eq}
use Rattle.std.specs.List.{AllByRecursion}
use Rattle.std.specs.Option.{option_eq}
use borrow.Author.Count.{below_more}
use Rattle.std.proofs.lemmas.Bool.Decides.{Decides-int_eq}
use Rattle.std.proofs.lemmas.List.Elements.{All-contains, All-from_recursion, Contains-append_left, Contains-append_right, Contains-push}
use Rattle.std.proofs.lemmas.Bool.{le-ltb}
use Rattle.list_facts.proofs.Truth.{first_true, second_true}
use Rattle.crystal_cartan.specs.Types.{CartanType, IsCartan, HasIndex, least_rank}
use Rattle.crystal_cartan.specs.declared.types.Kind.{Kind}
use Rattle.vector_crystals.specs.Letters.{letters, letters_of, IsLetter}

or_right : (a b : Bool) → (a || b) ≡ true → a ≡ false → b ≡ true
or_right true b h fails = cc
or_right false b h fails = h

pub int_eq-true : (x y : ℤ) → int_eq x y ≡ true → x ≡ y
int_eq-true x y h = (Decides-int_eq x y).0 h

pub option_eq-true : (a b : Option ℤ) → option_eq int_eq a b ≡ true → a ≡ b
option_eq-true None None h = refl
option_eq-true None (Some y) h = cc
option_eq-true (Some x) None h = cc
option_eq-true (Some x) (Some y) h = ap Some (int_eq-true x y h)

-- the test passes at every number below n
abbrev pub all_below : ℕ → (ℕ → Bool) → Bool
all_below zero p = true
all_below (suc n) p = p n && all_below n p

pub below_at : (n : ℕ) (p : ℕ → Bool) → all_below n p ≡ true → (k : ℕ) → k < n → p k ≡ true
below_at zero p h k l = absurd (omega arith)
below_at (suc n) p h k l = below_more (λ j. p j ≡ true) n (below_at n p (second_true _ _ h)) (first_true _ _ h) k (omega arith)

-- the test passes at every element
abbrev pub all_in : {E : Type 0} → (E → Bool) → List E → Bool
all_in p [] = true
all_in p (x ∷ xs) = p x && all_in p xs

each_in : {E : Type 0} (p : E → Bool) (xs : List E) → all_in p xs ≡ true → AllByRecursion (λ x. p x ≡ true) xs
each_in p [] h = tt
each_in p (x ∷ xs) h = (first_true _ _ h, each_in p xs (second_true _ _ h))

pub in_at : {E : Type 0} (p : E → Bool) (xs : List E) → all_in p xs ≡ true → (x : E) → Contains xs x → p x ≡ true
in_at p xs h x there = All-contains (λ y. p y ≡ true) xs x (All-from_recursion (λ y. p y ≡ true) xs (each_in p xs h)) there

-- whether the number is in the list
abbrev pub has : List ℤ → ℤ → Bool
has [] x = false
has (y ∷ ys) x = int_eq y x || has ys x

pub has-contains : (xs : List ℤ) (x : ℤ) → has xs x ≡ true → Contains xs x
has-contains [] x h = cc
has-contains (y ∷ ys) x h =
    elim (int_eq y x) as (λ b. int_eq y x ≡ b → (b || has ys x) ≡ true → Contains (y ∷ ys) x) [
      | true ↦ λ is _. subst (λ (z : ℤ). Contains (y ∷ ys) z) (int_eq-true y x is) (Contains-append_left (y ∷ []) ys y (Contains-push [] y))
      | false ↦ λ _ rest. Contains-append_right (y ∷ []) ys x (has-contains ys x rest)
    ] refl h

-- the test passes where there is a value
abbrev pub if_some : (ℤ → Bool) → Option ℤ → Bool
if_some p None = true
if_some p (Some y) = p y

pub some_at : (p : ℤ → Bool) (o : Option ℤ) (y : ℤ) → if_some p o ≡ true → o ≡ Some y → p y ≡ true
some_at p o y h is = rw is at h

-- whether two lists are equal
abbrev pub same_list : List ℤ → List ℤ → Bool
same_list [] [] = true
same_list [] (y ∷ ys) = false
same_list (x ∷ xs) [] = false
same_list (x ∷ xs) (y ∷ ys) = int_eq x y && same_list xs ys

pub same_list-true : (xs ys : List ℤ) → same_list xs ys ≡ true → xs ≡ ys
same_list-true [] [] h = refl
same_list-true [] (y ∷ ys) h = cc
same_list-true (x ∷ xs) [] h = cc
same_list-true (x ∷ xs) (y ∷ ys) h =
    let first : x ≡ y = int_eq-true x y (first_true (int_eq x y) (same_list xs ys) h) in
    let rest : xs ≡ ys = same_list-true xs ys (second_true (int_eq x y) (same_list xs ys) h) in
    cc

-- the test passes at every rank of a kind
abbrev pub all_ranks : (Kind → ℕ → Bool) → Kind → Bool
all_ranks test k = all_below 9 (λ r. nat_lt r (least_rank k) || test k r)

-- the test passes at every letter of the types of a kind
abbrev pub all_letters : (Kind → ℕ → ℤ → Bool) → Kind → Bool
all_letters cell = all_ranks (λ k r. all_in (cell k r) (letters_of k r))

-- the test passes at every index and letter of the types of a kind
abbrev pub all_cells : (Kind → ℕ → ℕ → ℤ → Bool) → Kind → Bool
all_cells cell = all_letters (λ k r x. all_below r (λ j. cell k r (j + 1) x))

pub ranks_at : (test : Kind → ℕ → Bool) → ((k : Kind) → all_ranks test k ≡ true) → (t : CartanType) → IsCartan t → test t.kind t.rank ≡ true
ranks_at test rows t c =
    let row : (nat_lt t.rank (least_rank t.kind) || test t.kind t.rank) ≡ true = below_at 9 (λ r. nat_lt r (least_rank t.kind) || test t.kind r) (rows t.kind) t.rank (omega (arith, c.high)) in
    or_right (nat_lt t.rank (least_rank t.kind)) (test t.kind t.rank) row (le-ltb t.rank (least_rank t.kind) c.low)

pub letters_at : (cell : Kind → ℕ → ℤ → Bool) → ((k : Kind) → all_letters cell k ≡ true) → (t : CartanType) (x : ℤ) → IsCartan t → IsLetter t x → cell t.kind t.rank x ≡ true
unfolding letters
letters_at cell rows t x c there =
    in_at (cell t.kind t.rank) (letters_of t.kind t.rank) (ranks_at (λ k r. all_in (cell k r) (letters_of k r)) rows t c) x there

pub cells_at : (cell : Kind → ℕ → ℕ → ℤ → Bool) → ((k : Kind) → all_cells cell k ≡ true) → (t : CartanType) (i : ℕ) (x : ℤ) → IsCartan t → HasIndex t i → IsLetter t x → cell t.kind t.rank i x ≡ true
cells_at cell rows t i x c index there =
    let row : all_below t.rank (λ j. cell t.kind t.rank (j + 1) x) ≡ true = letters_at (λ k r y. all_below r (λ j. cell k r (j + 1) y)) rows t x c there in
    let place : i - 1 + 1 ≡ i = omega (arith, index.low) in
    subst (λ (j : ℕ). cell t.kind t.rank j x ≡ true) place (below_at t.rank (λ j. cell t.kind t.rank (j + 1) x) row (i - 1) (omega (arith, index.low, index.high)))

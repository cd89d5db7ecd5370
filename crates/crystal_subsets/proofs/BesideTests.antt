-- The test of tops beside a weight, index by index.
use Rattle.std.proofs.Common.{◌≡◌, refl, sym, subst, inl, inr, ℕ, zero, suc, ◌+◌, ◌*◌, ◌≤◌, ◌<◌, Bool, true, false, T, IsTrue, List, ℤ, pos, ◌≤ℤ◌, arith}
use Rattle.std.specs.Prelude.{int_le}
use Rattle.std.specs.List.{list_all, range_with_len}
use Rattle.std.proofs.lemmas.Bool.{cases_eq}
use Rattle.list_facts.proofs.Truth.{first_true, second_true}
use Rattle.crystal_cartan.specs.Types.{HasIndex}
use Rattle.crystal_cartan.specs.Weights.{twice_pairing}
use Rattle.tensor_words.specs.Spaces.{SpaceType}
use Rattle.tensor_words.specs.TensorRule.{action}
use Rattle.crystal_subsets.specs.ProductTops.{is_top_beside}

-- a test of each number of a range
all_of_range : (p : ℕ → Bool) (a n : ℕ) → ((k : ℕ) → a ≤ k → k < a + n → p k ≡ true) → list_all p (range_with_len a n) ≡ true
all_of_range p a zero h = refl
all_of_range p a (suc n) h = rw (h a (omega arith) (omega arith)) (all_of_range p (a + 1) n (λ k low high. h k (omega arith) (omega arith)))

each_of_range : (p : ℕ → Bool) (a n : ℕ) → list_all p (range_with_len a n) ≡ true → (k : ℕ) → a ≤ k → k < a + n → p k ≡ true
each_of_range p a zero h k low high = absurd (omega arith)
each_of_range p a (suc n) h k low high = elim (cases_eq a k) [
  | inl is ↦ rw is at (first_true (p a) (list_all p (range_with_len (a + 1) n)) h)
  | inr other ↦ each_of_range p (a + 1) n (second_true (p a) (list_all p (range_with_len (a + 1) n)) h) k (omega arith) (omega arith)
]

below_by_test : (x y : ℤ) → int_le x y ≡ true → x ≤ℤ y
below_by_test x y is = record { le = subst T (sym is) tt }

test_by_below : (x y : ℤ) → x ≤ℤ y → int_le x y ≡ true
test_by_below x y below = by (int_le x y) below.le
  where
    by : (b : Bool) → T b → b ≡ true
    by true h = refl
    by false h = absurd h

-- eps_i of the word is at most the pairing of the weight, for each index i
abbrev pub IsBeside : SpaceType → List ℤ → List ℕ → Type 0
IsBeside s weight x = (i : ℕ) → HasIndex s.cartan i → pos (2 * (action s i).eps x) ≤ℤ twice_pairing s.cartan weight i

pub beside_by_test : (s : SpaceType) (weight : List ℤ) (x : List ℕ) → IsTrue (is_top_beside s weight x) → IsBeside s weight x
unfolding is_top_beside
beside_by_test s weight x is i index =
    below_by_test _ _
    (each_of_range (λ j. int_le (pos (2 * (action s j).eps x)) (twice_pairing s.cartan weight j)) 1 s.cartan.rank is i index.low (omega (arith, index.high)))

pub test_by_beside : (s : SpaceType) (weight : List ℤ) (x : List ℕ) → IsBeside s weight x → IsTrue (is_top_beside s weight x)
unfolding is_top_beside
test_by_beside s weight x beside =
    all_of_range (λ j. int_le (pos (2 * (action s j).eps x)) (twice_pairing s.cartan weight j)) 1 s.cartan.rank
    (λ i low high. test_by_below _ _ (beside i (record { low = low; high = omega arith })))

-- one index suffices for the answer no
pub not_beside : (s : SpaceType) (weight : List ℤ) (x : List ℕ) (i : ℕ) → HasIndex s.cartan i
    → ((pos (2 * (action s i).eps x) ≤ℤ twice_pairing s.cartan weight i) → ⊥) → false ≡ is_top_beside s weight x
not_beside s weight x i index fails =
    elim (is_top_beside s weight x) as (λ b. is_top_beside s weight x ≡ b → false ≡ b) [
      | true ↦ λ is. absurd (fails (beside_by_test s weight x is i index))
      | false ↦ λ is. refl
    ] refl

-- Weights of words, added from the last factor to the first.
use Rattle.std.proofs.Common.{◌≡◌, ◌∙◌, sym, subst, refl, ℕ, ◌+◌, ◌-◌, ◌*◌, ◌≤◌, ◌<◌, List, [], length, drop, get_or, ℤ, pos, All, arith}
use Rattle.std.proofs.lemmas.Int.{ints}
use Rattle.std.proofs.lemmas.List.{drop_more, drop_all}
use Rattle.crystal_cartan.specs.Types.{coordinates}
use Rattle.crystal_cartan.specs.Weights.{coordinate, zero_weight, sum_of, IsWeight, IsWithin}
use Rattle.crystal_cartan.proofs.Coordinates.{length-weight_from}
use Rattle.tensor_words.specs.declared.spaces.Factor.TheVariants.{Vector}
use Rattle.tensor_words.specs.Spaces.{SpaceType, base_weight, factor_at, weight_along, word_weight}
use Rattle.tensor_words.specs.Codes.{IsWord}
use Rattle.tensor_words.proofs.SpaceWords.{length_word}
use Rattle.crystal_cartan.proofs.Bounds.{All-weight_from}

pub within_at : (n : ℕ) (w : List ℤ) (j : ℕ) → All (IsWithin n) w → 1 ≤ j → j ≤ length w → IsWithin n (coordinate w j)
within_at n w j all low high = all (j - 1) (pos 0) (omega arith)

pub within_sum : (a b : ℕ) (v w : List ℤ) → length w ≡ length v → All (IsWithin a) v → All (IsWithin b) w → All (IsWithin (a + b)) (sum_of v w)
within_sum a b v w same first second = All-weight_from (IsWithin (a + b)) (length v) _ (λ j low high.
    let x : IsWithin a (coordinate v j) = within_at a v j first low high in
    let y : IsWithin b (coordinate w j) = within_at b w j second low (omega arith) in
    (omega (arith, ints, x.0, y.0), omega (arith, ints, x.1, y.1)))

-- the weight of the elements from the place k on
pub record IsWeighed (s : SpaceType) (w : List ℕ) (k : ℕ) (sum : List ℤ) : Type 0 where
  pub fits : k ≤ length s.factors
  pub value : sum ≡ weight_along s.cartan (drop k s.factors) (drop k w)
  pub size : length sum ≡ coordinates s.cartan
  pub within : All (IsWithin (2 * (length s.factors - k))) sum

pub weighed_none : (s : SpaceType) (w : List ℕ) (k : ℕ) (sum : List ℤ) → k ≡ length s.factors → sum ≡ zero_weight s.cartan → IsWeighed s w k sum
weighed_none s w k sum e is =
    let none : drop k s.factors ≡ [] = drop_all k s.factors (omega arith) in
    record {
      fits = omega arith;
      value = rw none is;
      size = rw is (length-weight_from (coordinates s.cartan) (λ j. pos 0));
      within = rw is (All-weight_from (IsWithin (2 * (length s.factors - k))) (coordinates s.cartan) (λ j. pos 0) (λ j low high. (omega (arith, ints), omega (arith, ints))));
    }

pub weighed_more :
    (s : SpaceType) (w : List ℕ) (k j d : ℕ) (own rest sum : List ℤ) → j ≡ k + 1 → k < length s.factors → IsWord s w →
    d ≡ get_or w k 0 → own ≡ base_weight s.cartan (factor_at s k) d → IsWeight s.cartan own → All (IsWithin 2) own →
    sum ≡ sum_of own rest → IsWeighed s w j rest → IsWeighed s w k sum
weighed_more s w k j d own rest sum next lt h digit own_is size within is before =
    let split : weight_along s.cartan (drop k s.factors) (drop k w) ≡ sum_of (base_weight s.cartan (factor_at s k) (get_or w k 0)) (weight_along s.cartan (drop (k + 1) s.factors) (drop (k + 1) w)) =
    rw (drop_more s.factors k Vector lt, drop_more w k 0 (omega (arith, length_word s w h))) refl in
    let rest_is : rest ≡ weight_along s.cartan (drop (k + 1) s.factors) (drop (k + 1) w) = rw next at before.value in
    let count : 2 + 2 * (length s.factors - j) ≡ 2 * (length s.factors - k) = omega arith in
    record {
      fits = omega arith;
      value = cc;
      size = rw is (length-weight_from (length own) _ ∙ size);
      within = rw is (subst (λ (m : ℕ). All (IsWithin m) (sum_of own rest)) count (within_sum 2 (2 * (length s.factors - j)) own rest (before.size ∙ sym size) within before.within));
    }

pub weighed_all : (s : SpaceType) (w : List ℕ) (k : ℕ) (sum : List ℤ) → k ≤ 0 → IsWeighed s w k sum → sum ≡ word_weight s w
unfolding word_weight
weighed_all s w k sum end before = let start : k ≡ 0 = omega arith in rw start at before.value

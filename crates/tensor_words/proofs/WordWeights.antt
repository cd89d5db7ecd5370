-- Weights of words: sums, their pairings, and the laws of a seminormal crystal on words.
use Rattle.std.proofs.Common.{◌≡◌, ◌∙◌, sym, refl, ℕ, ◌+◌, ◌-◌, ◌≤◌, ◌<◌, nat_lt, if◌then◌else◌, Bool, true, false, IsTrue, List, [], ◌∷◌, map, length, ℤ, pos, ◌+ℤ◌, ◌-ℤ◌, inl, inr, arith}
use Rattle.std.specs.List.{list_all}
use Rattle.std.proofs.lemmas.Bool.Decides.{nat_tests}
use Rattle.std.proofs.lemmas.Int.{ints}
use Rattle.crystal_cartan.specs.Types.{CartanType, IsCartan, HasIndex, coordinates, coordinates_of, least_rank}
use Rattle.crystal_cartan.specs.Weights.{coordinate, zero_weight, sum_of, difference_of, root, twice_pairing, last_twice_pairing, IsPairing}
use Rattle.crystal_cartan.specs.Crystals.{Action}
use Rattle.crystal_cartan.specs.Seminormal.{IsSeminormal}
use Rattle.crystal_cartan.specs.declared.types.Kind.{Kind}
use Rattle.crystal_cartan.specs.declared.types.Kind.TheVariants.{A, B, C, D}
use Rattle.crystal_cartan.proofs.Coordinates.{length-weight_from, coordinate-weight_from, weight_by_coordinates}
use Rattle.tensor_words.specs.declared.spaces.Factor.{Factor}
use Rattle.tensor_words.specs.declared.spaces.Order.{Order}
use Rattle.tensor_words.specs.declared.spaces.Order.TheVariants.{Standard, Kashiwara}
use Rattle.tensor_words.specs.Spaces.{SpaceType, HasFactors, has_factor, base_size, base_action, base_weight, weight_along, word_weight}
use Rattle.tensor_words.specs.Codes.{AreDigits, IsWord}
use Rattle.tensor_words.specs.TensorRule.{factor_actions, action_in, action}
use Rattle.tensor_words.proofs.BaseLaws.{IsLawfulDigit, digit_laws}
use Rattle.tensor_words.proofs.KeptWords.{first_digit_laws, other_factors}
use Rattle.tensor_words.proofs.FactorSteps.{IsFactorStep, lowering, lowered_step}
use Rattle.tensor_words.proofs.Turned.{action_steady}
use Rattle.tensor_words.proofs.WordLaws.{IsSteady, AreSteady}

sum_at : (v w : List ℤ) (j : ℕ) → 1 ≤ j → j ≤ length v → coordinate (sum_of v w) j ≡ coordinate v j +ℤ coordinate w j
sum_at v w j low high = coordinate-weight_from (length v) (λ k. coordinate v k +ℤ coordinate w k) j low high

length-sum : (v w : List ℤ) → length (sum_of v w) ≡ length v
length-sum v w = length-weight_from (length v) (λ k. coordinate v k +ℤ coordinate w k)

difference_at : (v w : List ℤ) (j : ℕ) → 1 ≤ j → j ≤ length v → coordinate (difference_of v w) j ≡ coordinate v j -ℤ coordinate w j
difference_at v w j low high = coordinate-weight_from (length v) (λ k. coordinate v k -ℤ coordinate w k) j low high

length-difference : (v w : List ℤ) → length (difference_of v w) ≡ length v
length-difference v w = length-weight_from (length v) (λ k. coordinate v k -ℤ coordinate w k)

-- a difference in the first summand
difference_first : (u v w : List ℤ) → sum_of (difference_of u v) w ≡ difference_of (sum_of u w) v
difference_first u v w =
    weight_by_coordinates (length (sum_of u w)) (λ k. coordinate (sum_of u w) k -ℤ coordinate v k) (sum_of (difference_of u v) w)
    (length-sum (difference_of u v) w ∙ length-difference u v ∙ sym (length-sum u w))
    (λ j low high.
    let inside : j ≤ length u = omega (arith, length-sum u w) in
    omega (arith, ints, sum_at (difference_of u v) w j low (omega (arith, length-difference u v)), difference_at u v j low inside, sum_at u w j low inside))

-- a difference in the second summand
difference_second : (u v w : List ℤ) → length u ≡ length v → sum_of u (difference_of v w) ≡ difference_of (sum_of u v) w
difference_second u v w size =
    weight_by_coordinates (length (sum_of u v)) (λ k. coordinate (sum_of u v) k -ℤ coordinate w k) (sum_of u (difference_of v w))
    (length-sum u (difference_of v w) ∙ sym (length-sum u v))
    (λ j low high.
    let inside : j ≤ length u = omega (arith, length-sum u v) in
    omega (arith, ints, sum_at u (difference_of v w) j low inside, difference_at v w j low (omega arith), sum_at u v j low inside))

last_pairing_sum : (k : Kind) (r : ℕ) (v w : List ℤ) → least_rank k ≤ r → length v ≡ coordinates_of k r
    → last_twice_pairing k r (sum_of v w) ≡ last_twice_pairing k r v +ℤ last_twice_pairing k r w
last_pairing_sum A r v w low size = omega (arith, ints, sum_at v w r (omega arith) (omega arith), sum_at v w (r + 1) (omega arith) (omega arith))
last_pairing_sum B r v w low size = omega (arith, ints, sum_at v w r (omega arith) (omega arith))
last_pairing_sum C r v w low size = sum_at v w r (omega arith) (omega arith)
last_pairing_sum D r v w low size = omega (arith, ints, sum_at v w (r - 1) (omega arith) (omega arith), sum_at v w r (omega arith) (omega arith))

rank_fits : (k : Kind) (r : ℕ) → r ≤ coordinates_of k r
rank_fits A r = omega arith
rank_fits B r = omega arith
rank_fits C r = omega arith
rank_fits D r = omega arith

-- the pairing is additive
pub pairing_sum : (t : CartanType) (v w : List ℤ) (i : ℕ) → IsCartan t → HasIndex t i → length v ≡ coordinates t
    → twice_pairing t (sum_of v w) i ≡ twice_pairing t v i +ℤ twice_pairing t w i
unfolding twice_pairing
pairing_sum t v w i c index size =
    elim (nat_lt i t.rank) as (λ b. nat_lt i t.rank ≡ b → at b (sum_of v w) ≡ at b v +ℤ at b w) [
      | true ↦ λ is. first is
      | false ↦ λ is. last_pairing_sum t.kind t.rank v w c.low size
    ] refl
  where
    at : Bool → List ℤ → ℤ
    at b u = if b then coordinate u i -ℤ coordinate u (i + 1) else last_twice_pairing t.kind t.rank u

    first : nat_lt i t.rank ≡ true → coordinate (sum_of v w) i -ℤ coordinate (sum_of v w) (i + 1) ≡ (coordinate v i -ℤ coordinate v (i + 1)) +ℤ (coordinate w i -ℤ coordinate w (i + 1))
    first is =
        let below : i < t.rank = grind (arith, nat_tests) in
        let fits : t.rank ≤ length v = omega (arith, rank_fits t.kind t.rank) in
        let low : 1 ≤ i = index.low in
        omega (arith, ints, sum_at v w i low (omega arith), sum_at v w (i + 1) (omega arith) (omega arith))

zero_at : (t : CartanType) (j : ℕ) → 1 ≤ j → j ≤ coordinates t → coordinate (zero_weight t) j ≡ pos 0
zero_at t j low high = coordinate-weight_from (coordinates t) (λ k. pos 0) j low high

last_pairing_zero : (t : CartanType) (k : Kind) (r : ℕ) → least_rank k ≤ r → coordinates t ≡ coordinates_of k r → last_twice_pairing k r (zero_weight t) ≡ pos 0
last_pairing_zero t A r low size = omega (arith, ints, zero_at t r (omega arith) (omega arith), zero_at t (r + 1) (omega arith) (omega arith))
last_pairing_zero t B r low size = omega (arith, ints, zero_at t r (omega arith) (omega arith))
last_pairing_zero t C r low size = zero_at t r (omega arith) (omega arith)
last_pairing_zero t D r low size = omega (arith, ints, zero_at t (r - 1) (omega arith) (omega arith), zero_at t r (omega arith) (omega arith))

pub pairing_zero : (t : CartanType) (i : ℕ) → IsCartan t → HasIndex t i → twice_pairing t (zero_weight t) i ≡ pos 0
unfolding twice_pairing
pairing_zero t i c index =
    elim (nat_lt i t.rank) as (λ b. nat_lt i t.rank ≡ b → at b ≡ pos 0) [
      | true ↦ λ is. first is
      | false ↦ λ is. last_pairing_zero t t.kind t.rank c.low refl
    ] refl
  where
    at : Bool → ℤ
    at b = if b then coordinate (zero_weight t) i -ℤ coordinate (zero_weight t) (i + 1) else last_twice_pairing t.kind t.rank (zero_weight t)

    first : nat_lt i t.rank ≡ true → coordinate (zero_weight t) i -ℤ coordinate (zero_weight t) (i + 1) ≡ pos 0
    first is =
        let below : i < t.rank = grind (arith, nat_tests) in
        let fits : t.rank ≤ coordinates t = rank_fits t.kind t.rank in
        let low : 1 ≤ i = index.low in
        omega (arith, ints, zero_at t i low (omega arith), zero_at t (i + 1) (omega arith) (omega arith))

-- the difference of the two lengths adds up over the factors
differences : {E : Type 0} (o : Order) (act : Action E) (acts : List (Action E)) (x : E) (w : List E)
    → pos ((action_in o (act ∷ acts)).phi (x ∷ w)) -ℤ pos ((action_in o (act ∷ acts)).eps (x ∷ w))
    ≡ (pos (act.phi x) -ℤ pos (act.eps x)) +ℤ (pos ((action_in o acts).phi w) -ℤ pos ((action_in o acts).eps w))
differences Standard act acts x w = omega (arith, ints)
differences Kashiwara act acts x w = omega (arith, ints)

ends_balanced : (o : Order) → pos ((action_in {E = ℕ} o []).phi []) -ℤ pos ((action_in {E = ℕ} o []).eps []) ≡ pos 0
ends_balanced Standard = refl
ends_balanced Kashiwara = refl

steady_from : (t : CartanType) (i : ℕ) (f : Factor) (d : ℕ) → IsLawfulDigit t i f d → IsSteady (base_action t i f) d
steady_from t i f d laws = record {
  raised_back = laws.seminormal.raised_back;
  lowered_back = laws.seminormal.lowered_back;
  lower_ends = laws.seminormal.lower_ends;
  raise_ends = laws.seminormal.raise_ends;
  lower_counts = laws.seminormal.lower_counts;
  raise_counts = laws.seminormal.raise_counts;
}

pub digit_steady : (t : CartanType) (i : ℕ) (f : Factor) (d : ℕ) → IsCartan t → HasIndex t i → IsTrue (has_factor t.kind f) → d < base_size t f
    → IsSteady (base_action t i f) d
digit_steady t i f d c index had below = steady_from t i f d (digit_laws t i f d c index had below)

module _ (t : CartanType) (i : ℕ) (c : IsCartan t) (index : HasIndex t i) where
  abbrev acts_of : List Factor → List (Action ℕ)
  acts_of fs = map (base_action t i) fs

  pub length-weight_along : (fs : List Factor) (w : List ℕ) → IsTrue (list_all (has_factor t.kind) fs) → AreDigits (map (base_size t) fs) w
      → length (weight_along t fs w) ≡ coordinates t
  length-weight_along [] [] had digits = length-weight_from (coordinates t) (λ k. pos 0)
  length-weight_along [] (x ∷ w) had digits = absurd digits
  length-weight_along (f ∷ fs) [] had digits = absurd digits
  length-weight_along (f ∷ fs) (x ∷ w) had digits =
      length-sum (base_weight t f x) (weight_along t fs w) ∙ (first_digit_laws t i f fs x c index had digits.0).size

  pub along_steady : (fs : List Factor) (w : List ℕ) → IsTrue (list_all (has_factor t.kind) fs) → AreDigits (map (base_size t) fs) w → AreSteady (acts_of fs) w
  along_steady [] [] had digits = tt
  along_steady [] (x ∷ w) had digits = absurd digits
  along_steady (f ∷ fs) [] had digits = absurd digits
  along_steady (f ∷ fs) (x ∷ w) had digits =
      (steady_from t i f x (first_digit_laws t i f fs x c index had digits.0), along_steady fs w (other_factors t f fs had) digits.1)

  along_balanced : (o : Order) (fs : List Factor) (w : List ℕ) → IsTrue (list_all (has_factor t.kind) fs) → AreDigits (map (base_size t) fs) w
      → IsPairing t (weight_along t fs w) i (pos ((action_in o (acts_of fs)).phi w) -ℤ pos ((action_in o (acts_of fs)).eps w))
  along_balanced o [] [] had digits = rw (ends_balanced o) (sym (pairing_zero t i c index))
  along_balanced o [] (x ∷ w) had digits = absurd digits
  along_balanced o (f ∷ fs) [] had digits = absurd digits
  along_balanced o (f ∷ fs) (x ∷ w) had digits =
      let laws = first_digit_laws t i f fs x c index had digits.0 in
      let first = laws.seminormal.balanced in
      let others = along_balanced o fs w (other_factors t f fs had) digits.1 in
      omega (arith, ints, first, others, differences o (base_action t i f) (acts_of fs) x w, pairing_sum t (base_weight t f x) (weight_along t fs w) i c index laws.size)

  along_falls : (fs : List Factor) (w v : List ℕ) → IsTrue (list_all (has_factor t.kind) fs) → AreDigits (map (base_size t) fs) w
      → IsFactorStep lowering (acts_of fs) w v → weight_along t fs v ≡ difference_of (weight_along t fs w) (root t i)
  along_falls [] w v had digits h = absurd h
  along_falls (f ∷ fs) [] v had digits h = absurd digits
  along_falls (f ∷ fs) (x ∷ w) v had digits h =
      let laws = first_digit_laws t i f fs x c index had digits.0 in
      let later = other_factors t f fs had in
      elim h [
        | inl (z, l, e) ↦
            rw (e, laws.seminormal.weight_falls z l) (difference_first (base_weight t f x) (root t i) (weight_along t fs w))
        | inr (z, l, e) ↦
            rw (e, along_falls fs w z later digits.1 l)
            (difference_second (base_weight t f x) (weight_along t fs w) (root t i) (laws.size ∙ sym (length-weight_along fs w later digits.1)))
      ]

pub seminormal_word : (s : SpaceType) (i : ℕ) (w : List ℕ) → HasFactors s → HasIndex s.cartan i → IsWord s w
    → IsSeminormal s.cartan i (action s i) (word_weight s) w
unfolding action word_weight
seminormal_word s i w factors index digits =
    let steady = action_steady s.order (factor_actions s i) w (along_steady s.cartan i factors.cartan index s.factors w factors.had digits) in
    record {
      raised_back = steady.raised_back;
      lowered_back = steady.lowered_back;
      lower_ends = steady.lower_ends;
      raise_ends = steady.raise_ends;
      lower_counts = steady.lower_counts;
      raise_counts = steady.raise_counts;
      balanced = along_balanced s.cartan i factors.cartan index s.order s.factors w factors.had digits;
      weight_falls = λ v h. along_falls s.cartan i factors.cartan index s.factors w v factors.had digits (lowered_step s.order (factor_actions s i) w v h);
    }

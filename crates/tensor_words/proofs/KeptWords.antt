-- Raising lowers the code and the sum of the digits.
use Rattle.std.proofs.Common.{◌≡◌, ℕ, ◌+◌, ◌-◌, ◌*◌, ◌≤◌, ◌<◌, IsTrue, List, [], ◌∷◌, length, map, pow_mono, Some, inl, inr, arith}
use Rattle.std.specs.List.{list_all}
use Rattle.std.proofs.Math.Nat.{mul-le-mul_right}
use Rattle.crystal_cartan.specs.Types.{CartanType, IsCartan, HasIndex}
use Rattle.crystal_cartan.specs.declared.types.Kind.{Kind}
use Rattle.crystal_cartan.specs.declared.types.Kind.TheVariants.{A, B, C, D}
use Rattle.vector_crystals.specs.Letters.{letter_count_of}
use Rattle.list_facts.proofs.Truth.{first_true, second_true}
use Rattle.tensor_words.specs.declared.spaces.Factor.{Factor}
use Rattle.tensor_words.specs.declared.spaces.Factor.TheVariants.{Vector, Spin, SpinPlus, SpinMinus}
use Rattle.tensor_words.specs.Spaces.{SpaceType, HasFactors, IsSpace, has_factor, base_size, base_action, product}
use Rattle.tensor_words.specs.Codes.{AreDigits, IsWord, code, code_of}
use Rattle.tensor_words.specs.TensorRule.{factor_actions, action}
use Rattle.tensor_words.proofs.BaseLaws.{IsLawfulDigit, digit_laws}
use Rattle.tensor_words.proofs.Digits.{code_in_range}
use Rattle.tensor_words.proofs.FactorSteps.{IsFactorStep, raising, raised_step}

pub factors_of_space : (s : SpaceType) → IsSpace s → HasFactors s
factors_of_space s space = record { cartan = space.cartan; had = space.had }

-- the factors from one on
pub other_factors : (t : CartanType) (f : Factor) (fs : List Factor) → IsTrue (list_all (has_factor t.kind) (f ∷ fs)) → IsTrue (list_all (has_factor t.kind) fs)
other_factors t f fs had = second_true (has_factor t.kind f) (list_all (has_factor t.kind) fs) had

-- the digit of the first factor
pub first_digit_laws : (t : CartanType) (i : ℕ) (f : Factor) (fs : List Factor) (d : ℕ) → IsCartan t → HasIndex t i
    → IsTrue (list_all (has_factor t.kind) (f ∷ fs)) → d < base_size t f → IsLawfulDigit t i f d
first_digit_laws t i f fs d c index had below =
    digit_laws t i f d c index (first_true (has_factor t.kind f) (list_all (has_factor t.kind) fs) had) below

abbrev pub digit_sum : List ℕ → ℕ
digit_sum [] = 0
digit_sum (d ∷ ds) = d + digit_sum ds

-- a word that raising leads to: its code and the sum of its digits are smaller
pub record IsRaised (bs w v : List ℕ) : Type 0 where
  pub digits : AreDigits bs v
  pub code : code bs v < code bs w
  pub sum : digit_sum v < digit_sum w

pub raised_word : (t : CartanType) (i : ℕ) (fs : List Factor) (w v : List ℕ) → IsCartan t → HasIndex t i
    → IsTrue (list_all (has_factor t.kind) fs) → AreDigits (map (base_size t) fs) w
    → IsFactorStep raising (map (base_action t i) fs) w v → IsRaised (map (base_size t) fs) w v
raised_word t i [] w v c index had digits h = absurd h
raised_word t i (f ∷ fs) [] v c index had digits h = absurd digits
raised_word t i (f ∷ fs) (x ∷ w) v c index had digits h =
    let bs : List ℕ = map (base_size t) fs in
    let below : code bs w < product bs = code_in_range bs w digits.1 in
    elim h [
      | inl (z, l, e) ↦
          let low : x < base_size t f = digits.0 in
          let falls : z < x = (first_digit_laws t i f fs x c index had digits.0).raise_falls z l in
          let rows : (z + 1) * product bs ≤ x * product bs = mul-le-mul_right (product bs) (omega arith) in
          rw e (record { digits = (omega arith, digits.1); code = omega (arith, rows); sum = omega arith })
      | inr (z, l, e) ↦
          let rest : IsRaised bs w z = raised_word t i fs w z c index (other_factors t f fs had) digits.1 l in
          rw e (record { digits = (digits.0, rest.digits); code = omega (arith, rest.code); sum = omega (arith, rest.sum) })
    ]

-- the measures of raising again and again
pub raise_lowers_code : (s : SpaceType) (i : ℕ) (v w : List ℕ) → HasFactors s → HasIndex s.cartan i → IsWord s w
    → (action s i).raise w ≡ Some v → code_of s v < code_of s w
unfolding action code_of
raise_lowers_code s i v w had index is h = (raised_word s.cartan i s.factors w v had.cartan index had.had is (raised_step s.order (factor_actions s i) w v h)).code

pub raise_lowers_sum : (s : SpaceType) (i : ℕ) (v w : List ℕ) → HasFactors s → HasIndex s.cartan i → IsWord s w
    → (action s i).raise w ≡ Some v → digit_sum v < digit_sum w
unfolding action
raise_lowers_sum s i v w had index is h = (raised_word s.cartan i s.factors w v had.cartan index had.had is (raised_step s.order (factor_actions s i) w v h)).sum

base_few : (t : CartanType) (f : Factor) → IsCartan t → base_size t f ≤ 256
unfolding base_size
base_few t Vector c = letters t.kind
  where
    letters : (k : Kind) → letter_count_of k t.rank ≤ 256
    letters A = omega (arith, c.high)
    letters B = omega (arith, c.high)
    letters C = omega (arith, c.high)
    letters D = omega (arith, c.high)
base_few t Spin c = pow_mono {i = t.rank} {j = 8} c.high
base_few t SpinPlus c = pow_mono {i = t.rank - 1} {j = 8} (omega (arith, c.high))
base_few t SpinMinus c = pow_mono {i = t.rank - 1} {j = 8} (omega (arith, c.high))

pub digit_sum_few : (t : CartanType) (fs : List Factor) (w : List ℕ) → IsCartan t → AreDigits (map (base_size t) fs) w → digit_sum w ≤ 256 * length fs
digit_sum_few t [] [] c digits = omega arith
digit_sum_few t [] (x ∷ w) c digits = absurd digits
digit_sum_few t (f ∷ fs) [] c digits = absurd digits
digit_sum_few t (f ∷ fs) (x ∷ w) c digits = omega (arith, digits.0, base_few t f c, digit_sum_few t fs w c digits.1)

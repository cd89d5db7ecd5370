-- The laws of the digits of one factor.
use Rattle.std.proofs.Common.{◌≡◌, ◌∙◌, sym, ap, ℕ, ◌+◌, ◌≤◌, ◌<◌, IsTrue, length, Some, arith}
use Rattle.std.proofs.Common.{inl, inr}
use Rattle.std.proofs.lemmas.Bool.{cases_lt}
use Rattle.crystal_cartan.specs.Types.{CartanType, IsCartan, HasIndex, coordinates}
use Rattle.crystal_cartan.specs.Seminormal.{IsSeminormal}
use Rattle.crystal_cartan.proofs.Coordinates.{length-weight_from}
use Rattle.vector_crystals.specs.Letters.{letter_at}
use Rattle.vector_crystals.specs.VectorCrystals.{letter_weight}
use Rattle.vector_crystals.proofs.Seminormal.{digit_seminormal}
use Rattle.spin_crystals.specs.Signs.{HasHalf, half_size, signs_at}
use Rattle.spin_crystals.specs.SpinCrystals.{signs_weight, sign_coordinate, spin_digit_action}
use Rattle.spin_crystals.specs.declared.signs.Half.{Half}
use Rattle.spin_crystals.specs.declared.signs.Half.TheVariants.{Whole, Plus, Minus}
use Rattle.spin_crystals.proofs.DigitLaws.{spin_from_half, digit_seminormal as spin_digit_seminormal}
use Rattle.spin_crystals.proofs.SignWeights.{spin_coordinates}
use Rattle.tensor_words.specs.declared.spaces.Factor.{Factor}
use Rattle.tensor_words.specs.declared.spaces.Factor.TheVariants.{Vector, Spin, SpinPlus, SpinMinus}
use Rattle.tensor_words.specs.Spaces.{has_factor, base_size, base_action, base_weight}
use Rattle.tensor_words.proofs.RaisingFalls.{vector_raise_falls, spin_raise_not_above}
use Rattle.crystal_cartan.proofs.Ranks.{rank_positive}

-- what one index does at a digit of a factor: the laws of a seminormal crystal, a weight of the type, and raising to a smaller digit
pub record IsLawfulDigit (t : CartanType) (i : ℕ) (f : Factor) (d : ℕ) : Type 0 where
  pub seminormal : IsSeminormal t i (base_action t i f) (base_weight t f) d
  pub size : length (base_weight t f d) ≡ coordinates t
  pub raise_falls : (e : ℕ) → (base_action t i f).raise d ≡ Some e → e < d

letter_size : (t : CartanType) (d : ℕ) → length (letter_weight t (letter_at t d)) ≡ coordinates t
unfolding letter_weight
letter_size t d = length-weight_from (coordinates t) _

signs_size : (t : CartanType) (half : Half) (d : ℕ) → HasHalf t half → length (signs_weight t (signs_at half t.rank d)) ≡ coordinates t
unfolding signs_weight
signs_size t half d had = length-weight_from t.rank (sign_coordinate (signs_at half t.rank d)) ∙ sym (spin_coordinates t (spin_from_half t half had))

-- raising changes the digit, since it changes eps
other_digit : (d e m n : ℕ) → m ≡ n + 1 → (e ≡ d → n ≡ m) → e ≤ d → e < d
other_digit d e m n counts same low =
    elim (cases_lt e d) [
      | inl below ↦ below
      | inr least ↦
          let equal : n ≡ m = same (omega arith) in
          absurd (omega arith)
    ]

vector_laws : (t : CartanType) (i d : ℕ) → IsCartan t → HasIndex t i → d < base_size t Vector → IsLawfulDigit t i Vector d
unfolding base_size base_action base_weight
vector_laws t i d c index below = record {
  seminormal = digit_seminormal t i d c index below;
  size = letter_size t d;
  raise_falls = λ e is. vector_raise_falls t i d e c index below is;
}

module _ (t : CartanType) (half : Half) (i d : ℕ) (c : IsCartan t) (had : HasHalf t half) (index : HasIndex t i) (below : d < half_size half t.rank) where
  spin_raise_falls : (e : ℕ) → (spin_digit_action t half i).raise d ≡ Some e → e < d
  spin_raise_falls e is =
      let laws = spin_digit_seminormal t half i d c had index below in
      other_digit d e ((spin_digit_action t half i).eps d) ((spin_digit_action t half i).eps e) (laws.raise_counts e is).0
      (ap (spin_digit_action t half i).eps) (spin_raise_not_above t half i d e c had index (rank_positive t c) below is)

pub digit_laws : (t : CartanType) (i : ℕ) (f : Factor) (d : ℕ) → IsCartan t → HasIndex t i → IsTrue (has_factor t.kind f) → d < base_size t f
    → IsLawfulDigit t i f d
unfolding base_size base_action base_weight
digit_laws t i Vector d c index had below = vector_laws t i d c index below
digit_laws t i Spin d c index had below = record {
  seminormal = spin_digit_seminormal t Whole i d c had index below;
  size = signs_size t Whole d had;
  raise_falls = spin_raise_falls t Whole i d c had index below;
}
digit_laws t i SpinPlus d c index had below = record {
  seminormal = spin_digit_seminormal t Plus i d c had index below;
  size = signs_size t Plus d had;
  raise_falls = spin_raise_falls t Plus i d c had index below;
}
digit_laws t i SpinMinus d c index had below = record {
  seminormal = spin_digit_seminormal t Minus i d c had index below;
  size = signs_size t Minus d had;
  raise_falls = spin_raise_falls t Minus i d c had index below;
}

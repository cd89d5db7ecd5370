-- The operators on words, and on the codes of words.
use Rattle.std.specs.Prelude.{ℕ, ◌≡◌, ◌<◌, Bool, true, false, IsTrue, List, [], ◌∷◌, Option, Some}
use Rattle.std.specs.Option.{option_map}
use Rattle.crystal_cartan.specs.Types.{CartanType, IsCartan, HasIndex}
use Rattle.crystal_cartan.specs.Crystals.{Action}
use Rattle.crystal_cartan.specs.declared.types.Arrow.{Arrow}
use Rattle.tensor_words.specs.declared.spaces.Factor.{Factor}
use Rattle.tensor_words.specs.declared.spaces.Order.{Order}
use Rattle.tensor_words.specs.Spaces.{SpaceType, tensor_space, ordered, has_factor, base_size, base_action, HasFactors}
use Rattle.tensor_words.specs.Codes.{IsWord, code_of, word_of}
use Rattle.tensor_words.specs.TensorRule.{action}

-- the arrow has an index of the type
pub record IsArrow (s : SpaceType) (a : Arrow) : Type 0 where
  pub index : HasIndex s.cartan a.index

-- every eps of the word is zero: no raising operator can be applied to it
abbrev pub IsTop : SpaceType → List ℕ → Type 0
IsTop s w = (i : ℕ) → HasIndex s.cartan i → (action s i).eps w ≡ 0

-- lowering where `down` is true, else raising
abbrev pub step_of : {E : Type 0} → Bool → Action E → E → Option E
step_of true act x = act.lower x
step_of false act x = act.raise x

-- what the operator of an arrow makes of a word: a word, or zero (None)
abbrev pub acted : SpaceType → Arrow → List ℕ → Option (List ℕ)
acted s a w = step_of a.down (action s a.index) w

-- the same on codes
unfoldable pub op : SpaceType → Arrow → ℕ → Option ℕ
op s a c = option_map (code_of s) (acted s a (word_of s c))

-- laws

-- what an operator makes of a word of the space is zero or a word of the space
abbrev pub OperatorsKeepWords : Type 0
OperatorsKeepWords =
    (s : SpaceType) (a : Arrow) (v w : List ℕ) → HasFactors s → IsArrow s a → IsWord s w → acted s a w ≡ Some v → IsWord s v

-- on a word of one factor the rule is the base crystal's own, in each order
pub record IsOneFactorRule (o : Order) (t : CartanType) (i : ℕ) (f : Factor) (d : ℕ) : Type 0 where
  pub eps : (action (ordered o (tensor_space t (f ∷ []))) i).eps (d ∷ []) ≡ (base_action t i f).eps d
  pub phi : (action (ordered o (tensor_space t (f ∷ []))) i).phi (d ∷ []) ≡ (base_action t i f).phi d
  pub lower : (action (ordered o (tensor_space t (f ∷ []))) i).lower (d ∷ []) ≡ option_map (λ x. x ∷ []) ((base_action t i f).lower d)
  pub raise : (action (ordered o (tensor_space t (f ∷ []))) i).raise (d ∷ []) ≡ option_map (λ x. x ∷ []) ((base_action t i f).raise d)

abbrev pub OneFactorRule : Type 0
OneFactorRule =
    (o : Order) (t : CartanType) (i : ℕ) (f : Factor) (d : ℕ) →
    IsCartan t → HasIndex t i → IsTrue (has_factor t.kind f) → d < base_size t f → IsOneFactorRule o t i f d

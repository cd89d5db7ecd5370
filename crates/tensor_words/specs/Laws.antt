-- Laws of words that hold of any number of factors: of words one after another, of reversed words, of strings and of arrows turned.
use Rattle.std.specs.Prelude.{ℕ, ◌+◌, ◌-◌, ◌*◌, ◌<◌, ◌≡◌, ◌↔◌, min, not, nat_le, nat_lt, if◌then◌else◌, List, ◌++◌, reverse, Some}
use Rattle.std.specs.Option.{option_map}
use Rattle.crystal_cartan.specs.Types.{CartanType, HasIndex}
use Rattle.crystal_cartan.specs.Crystals.{Action, times_taken}
use Rattle.crystal_cartan.specs.Seminormal.{IsSeminormal}
use Rattle.crystal_cartan.specs.declared.types.Arrow.{Arrow}
use Rattle.tensor_words.specs.declared.spaces.Factor.{Factor}
use Rattle.tensor_words.specs.declared.spaces.Order.{Order}
use Rattle.tensor_words.specs.declared.spaces.Order.TheVariants.{Standard, Kashiwara}
use Rattle.tensor_words.specs.Spaces.{SpaceType, HasFactors, tensor_space, ordered, size, word_weight}
use Rattle.tensor_words.specs.Codes.{IsWord, code_of}
use Rattle.tensor_words.specs.TensorRule.{action}
use Rattle.tensor_words.specs.Operators.{IsArrow, op}

-- the two-factor rule of the standard order, for x ⊗ y of words x and y with the actions a and b
pub record IsStandardProduct {E : Type 0} (a b both : Action (List E)) (x y : List E) : Type 0 where
  pub phi : both.phi (x ++ y) ≡ a.phi x + (b.phi y - a.eps x)
  pub eps : both.eps (x ++ y) ≡ b.eps y + (a.eps x - b.phi y)
  pub lower : both.lower (x ++ y) ≡ (if nat_le (b.phi y) (a.eps x) then option_map (λ z. z ++ y) (a.lower x) else option_map (λ z. x ++ z) (b.lower y))
  pub raise : both.raise (x ++ y) ≡ (if nat_lt (b.phi y) (a.eps x) then option_map (λ z. z ++ y) (a.raise x) else option_map (λ z. x ++ z) (b.raise y))

-- the same in Kashiwara's order
pub record IsKashiwaraProduct {E : Type 0} (a b both : Action (List E)) (x y : List E) : Type 0 where
  pub phi : both.phi (x ++ y) ≡ b.phi y + (a.phi x - b.eps y)
  pub eps : both.eps (x ++ y) ≡ a.eps x + (b.eps y - a.phi x)
  pub lower : both.lower (x ++ y) ≡ (if nat_le (a.phi x) (b.eps y) then option_map (λ z. x ++ z) (b.lower y) else option_map (λ z. z ++ y) (a.lower x))
  pub raise : both.raise (x ++ y) ≡ (if nat_lt (a.phi x) (b.eps y) then option_map (λ z. x ++ z) (b.raise y) else option_map (λ z. z ++ y) (a.raise x))

abbrev pub IsProduct : {E : Type 0} → Order → Action (List E) → Action (List E) → Action (List E) → List E → List E → Type 0
IsProduct Standard a b both x y = IsStandardProduct a b both x y
IsProduct Kashiwara a b both x y = IsKashiwaraProduct a b both x y

-- the two-factor rule holds for any two words, one after the other
abbrev pub ProductRule : Type 0
ProductRule =
    (o : Order) (t : CartanType) (i : ℕ) (fs gs : List Factor) (x y : List ℕ) → HasFactors (tensor_space t fs) → HasFactors (tensor_space t gs) →
    HasIndex t i → IsWord (tensor_space t fs) x → IsWord (tensor_space t gs) y →
    IsProduct o (action (ordered o (tensor_space t fs)) i) (action (ordered o (tensor_space t gs)) i) (action (ordered o (tensor_space t (fs ++ gs))) i) x y

-- the code of two words, one after the other
abbrev pub CodesOfProducts : Type 0
CodesOfProducts =
    (t : CartanType) (fs gs : List Factor) (x y : List ℕ) → IsWord (tensor_space t fs) x → IsWord (tensor_space t gs) y →
    IsWord (tensor_space t (fs ++ gs)) (x ++ y)
    × (code_of (tensor_space t (fs ++ gs)) (x ++ y) ≡ code_of (tensor_space t fs) x * size (tensor_space t gs) + code_of (tensor_space t gs) y)

-- the action a does at w what the action b does at the reversed word, its result reversed
pub record IsReversal {E : Type 0} (a b : Action (List E)) (w : List E) : Type 0 where
  pub eps : a.eps w ≡ b.eps (reverse w)
  pub phi : a.phi w ≡ b.phi (reverse w)
  pub lower : a.lower w ≡ option_map reverse (b.lower (reverse w))
  pub raise : a.raise w ≡ option_map reverse (b.raise (reverse w))

-- the law of reversal: Kashiwara's order is the standard order on reversed words over the reversed factors
abbrev pub LawOfReversal : Type 0
LawOfReversal =
    (t : CartanType) (i : ℕ) (fs : List Factor) (w : List ℕ) → HasFactors (tensor_space t fs) → HasIndex t i → IsWord (tensor_space t fs) w →
    IsReversal (action (ordered Kashiwara (tensor_space t fs)) i) (action (tensor_space t (reverse fs)) i) w

-- the reversed factors are those of the type, and the reversed word is a word of theirs
abbrev pub WordsReversed : Type 0
WordsReversed =
    (t : CartanType) (fs : List Factor) (w : List ℕ) → HasFactors (tensor_space t fs) → IsWord (tensor_space t fs) w →
    HasFactors (tensor_space t (reverse fs)) × IsWord (tensor_space t (reverse fs)) (reverse w)

-- the words of a space make a seminormal crystal
abbrev pub WordsAreSeminormal : Type 0
WordsAreSeminormal =
    (s : SpaceType) (i : ℕ) (w : List ℕ) → HasFactors s → HasIndex s.cartan i → IsWord s w → IsSeminormal s.cartan i (action s i) (word_weight s) w

-- how often the two operators can be applied to x, n times at the most
pub record HasStrings {E : Type 0} (act : Action E) (x : E) : Type 0 where
  pub eps : (n : ℕ) → times_taken act.raise n x ≡ min n (act.eps x)
  pub phi : (n : ℕ) → times_taken act.lower n x ≡ min n (act.phi x)

-- eps and phi of a word are the lengths of its strings
abbrev pub LengthsOfStrings : Type 0
LengthsOfStrings = (s : SpaceType) (i : ℕ) (w : List ℕ) → HasFactors s → HasIndex s.cartan i → IsWord s w → HasStrings (action s i) w

-- the arrow of the same index the other way
abbrev pub reversed_arrow : Arrow → Arrow
reversed_arrow a = record { down = not a.down; index = a.index }

-- an arrow leads from one code to another exactly where the reversed arrow leads back
abbrev pub ArrowsLeadBack : Type 0
ArrowsLeadBack =
    (s : SpaceType) (a : Arrow) (c d : ℕ) → HasFactors s → IsArrow s a → c < size s → d < size s →
    (op s a c ≡ Some d) ↔ (op s (reversed_arrow a) d ≡ Some c)

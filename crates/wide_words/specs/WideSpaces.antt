-- Wide words: a word of a high space followed by a word of a low one. Machine words hold its code as a pair, the code of the
-- high word and that of the low word; contracts speak of the number of the pair, which is the code of the whole word.
use Rattle.std.specs.Prelude.{ℕ, ◌+◌, ◌*◌, ◌≡◌, ◌<◌, ◌++◌, Bool, true, false, nat_le, nat_lt, List, Option}
use Rattle.std.specs.Option.{option_map}
use Rattle.crystal_cartan.specs.Crystals.{Action}
use Rattle.crystal_cartan.specs.declared.types.Arrow.{Arrow}
use Rattle.tensor_words.specs.declared.spaces.Order.{Order}
use Rattle.tensor_words.specs.declared.spaces.Order.TheVariants.{Standard, Kashiwara}
use Rattle.tensor_words.specs.Spaces.{SpaceType, IsSpace, tensor_space, ordered, size}
use Rattle.tensor_words.specs.TensorRule.{action}
use Rattle.wide_words.specs.declared.spaces.WideCode.{WideCode}

-- a high space and a low one
pub record WideSpaceType : Type 0 where
  pub high : SpaceType
  pub low : SpaceType

-- the two spaces are of one Cartan type and one tensor order
pub record AreOfOneKind (high low : SpaceType) : Type 0 where
  pub cartan : low.cartan ≡ high.cartan
  pub order : low.order ≡ high.order

-- the wide space is one of those that are taken
pub record IsWideSpace (s : WideSpaceType) : Type 0 where
  pub high : IsSpace s.high
  pub low : IsSpace s.low
  pub kind : AreOfOneKind s.high s.low

-- the space of the wide words: the factors of the high space, and then those of the low one
abbrev pub whole : WideSpaceType → SpaceType
whole s = ordered s.high.order (tensor_space s.high.cartan (s.high.factors ++ s.low.factors))

-- each half of the pair is the code of a word of its space
pub record IsWide (s : WideSpaceType) (c : WideCode) : Type 0 where
  pub high : c.high < size s.high
  pub low : c.low < size s.low

-- the code that a pair holds
abbrev pub number : WideSpaceType → WideCode → ℕ
number s c = c.high * size s.low + c.low

-- whether an operator acts on the first of two words x and y with the actions a and b, by the tensor product rule in each
-- order: lowering where `down` is true, else raising
abbrev pub acts_first : {E : Type 0} → Order → Bool → Action E → Action E → E → E → Bool
acts_first Standard true a b x y = nat_le (b.phi y) (a.eps x)
acts_first Standard false a b x y = nat_lt (b.phi y) (a.eps x)
acts_first Kashiwara true a b x y = nat_lt (b.eps y) (a.phi x)
acts_first Kashiwara false a b x y = nat_le (b.eps y) (a.phi x)

-- whether the operator of an arrow acts on the high word x of a wide word, and not on the low word y
abbrev pub acts_high : WideSpaceType → Arrow → List ℕ → List ℕ → Bool
acts_high s a x y = acts_first s.high.order a.down (action s.high a.index) (action s.low a.index) x y

-- the pair with another high half, or with another low half, if there is one
abbrev pub with_high : WideCode → Option ℕ → Option WideCode
with_high c high = option_map (λ h. record { high = h; low = c.low }) high

abbrev pub with_low : WideCode → Option ℕ → Option WideCode
with_low c low = option_map (λ l. record { high = c.high; low = l }) low

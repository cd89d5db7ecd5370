-- The operators of the whole space on a pair: the tensor product rule for the two halves.
use Rattle.std.proofs.Common.{◌≡◌, refl, sym, ap, subst, ◌∙◌, ℕ, ◌+◌, ◌*◌, ◌<◌, if◌then◌else◌, Bool, true, false, List, ◌++◌, Option, Some, None}
use Rattle.std.specs.Option.{option_map}
use Rattle.crystal_cartan.specs.Types.{CartanType, HasIndex}
use Rattle.crystal_cartan.specs.Crystals.{Action}
use Rattle.crystal_cartan.specs.declared.types.Arrow.{Arrow}
use Rattle.tensor_words.specs.declared.spaces.Order.{Order}
use Rattle.tensor_words.specs.declared.spaces.Order.TheVariants.{Standard, Kashiwara}
use Rattle.tensor_words.specs.Spaces.{SpaceType, tensor_space, ordered, sizes, size}
use Rattle.tensor_words.specs.Codes.{IsWord, code, code_of, word_of}
use Rattle.tensor_words.specs.TensorRule.{action}
use Rattle.tensor_words.specs.Operators.{IsArrow, step_of, acted, op}
use Rattle.tensor_words.specs.Laws.{IsProduct}
use Rattle.tensor_words.proofs.Keeps.{operators_keep_words}
use Rattle.tensor_words.proofs.KeptWords.{factors_of_space}
use Rattle.tensor_words.proofs.Products.{product_rule, code_joined}
use Rattle.tensor_words.proofs.SpaceWords.{code_back, code_below, IsWord-word_of}
use Rattle.tensor_words.proofs.Turned.{either_way}
use Rattle.wide_words.specs.declared.spaces.WideCode.{WideCode}
use Rattle.wide_words.specs.WideSpaces.{WideSpaceType, IsWideSpace, whole, IsWide, number, acts_first, acts_high, with_high, with_low}
use Rattle.wide_words.proofs.WideCodes.{sizes_whole, wide_word, factors_high, factors_low, factors_whole}

-- one operator by the two-factor rule
by_parts : (o : Order) (down : Bool) (a b both : Action (List ℕ)) (x y : List ℕ) → IsProduct o a b both x y
    → step_of down both (x ++ y) ≡ (if acts_first o down a b x y then option_map (λ z. z ++ y) (step_of down a x) else option_map (λ z. x ++ z) (step_of down b y))
by_parts Standard true a b both x y p = p.lower
by_parts Standard false a b both x y p = p.raise
by_parts Kashiwara true a b both x y p =
    p.lower ∙ either_way (a.phi x) (b.eps y) (option_map (λ z. x ++ z) (b.lower y)) (option_map (λ z. z ++ y) (a.lower x))
by_parts Kashiwara false a b both x y p =
    p.raise ∙ sym (either_way (b.eps y) (a.phi x) (option_map (λ z. z ++ y) (a.raise x)) (option_map (λ z. x ++ z) (b.raise y)))

module _ (s : WideSpaceType) (space : IsWideSpace s) where
  low_is : s.low ≡ ordered s.high.order (tensor_space s.high.cartan s.low.factors)
  low_is = λ i. record { cartan = space.kind.cartan i; factors = s.low.factors; order = space.kind.order i }

  -- an index of the type is one of the low space
  pub low_index : (i : ℕ) → HasIndex s.high.cartan i → HasIndex s.low.cartan i
  low_index i has = subst (λ (t : CartanType). HasIndex t i) (sym space.kind.cartan) has

  module _ (a : Arrow) (arrow : IsArrow (whole s) a) (x y : List ℕ) (first : IsWord s.high x) (second : IsWord s.low y) where
    -- the operator of the whole space on a word of two halves
    at : (low : SpaceType) → low ≡ ordered s.high.order (tensor_space s.high.cartan s.low.factors) → IsWord low y
        → acted (whole s) a (x ++ y) ≡ (if acts_first s.high.order a.down (action s.high a.index) (action low a.index) x y then option_map (λ z. z ++ y) (acted s.high a x) else option_map (λ z. x ++ z) (acted low a y))
    at low is word =
        let same : IsWord (tensor_space s.high.cartan s.low.factors) y = subst (λ (t : SpaceType). IsWord t y) is word in
        rw is (by_parts s.high.order a.down (action s.high a.index) (action (ordered s.high.order (tensor_space s.high.cartan s.low.factors)) a.index) (action (whole s) a.index) x y
        (product_rule s.high.order s.high.cartan a.index s.high.factors s.low.factors x y (factors_high s space) (factors_low s space) arrow.index first same))

    pub wide_acted : acted (whole s) a (x ++ y) ≡ (if acts_high s a x y then option_map (λ z. z ++ y) (acted s.high a x) else option_map (λ z. x ++ z) (acted s.low a y))
    wide_acted = at s.low low_is second

  -- an operator leads from a code of the whole space to one
  pub op_whole_below : (a : Arrow) (x y : ℕ) → IsArrow (whole s) a → x < size (whole s) → op (whole s) a x ≡ Some y → y < size (whole s)
  unfolding op
  op_whole_below a x y arrow below leads = by (acted (whole s) a (word_of (whole s) x)) refl leads
    where
      by : (o : Option (List ℕ)) → acted (whole s) a (word_of (whole s) x) ≡ o → option_map (code_of (whole s)) o ≡ Some y → y < size (whole s)
      by None is led = cc
      by (Some v) is led =
          let word : IsWord (whole s) v = operators_keep_words (whole s) a v (word_of (whole s) x) (factors_whole s space) arrow (IsWord-word_of (whole s) x below) is in
          let same : code_of (whole s) v ≡ y = cc in
          subst (λ (n : ℕ). n < size (whole s)) same (code_below (whole s) v word)

  pub code_joined_whole : (x y : List ℕ) → IsWord s.high x → code_of (whole s) (x ++ y) ≡ code_of s.high x * size s.low + code_of s.low y
  unfolding code_of
  code_joined_whole x y first = ap (λ (bs : List ℕ). code bs (x ++ y)) (sizes_whole s space) ∙ code_joined (sizes s.high) (sizes s.low) x y first

  module _ (a : Arrow) (arrow : IsArrow (whole s) a) (c : WideCode) (is : IsWide s c) (x y : List ℕ) (x_is : x ≡ word_of s.high c.high) (y_is : y ≡ word_of s.low c.low) where
    module _ where
      x_word : IsWord s.high x
      x_word = rw x_is (IsWord-word_of s.high c.high is.high)

      y_word : IsWord s.low y
      y_word = rw y_is (IsWord-word_of s.low c.low is.low)

      x_code : code_of s.high x ≡ c.high
      x_code = ap (code_of s.high) x_is ∙ code_back s.high c.high is.high

      y_code : code_of s.low y ≡ c.low
      y_code = ap (code_of s.low) y_is ∙ code_back s.low c.low is.low

      joined : word_of (whole s) (number s c) ≡ x ++ y
      joined = wide_word s space c is ∙ (λ i. sym x_is i ++ sym y_is i)

      wide_op : op (whole s) a (number s c) ≡ option_map (code_of (whole s)) (if acts_high s a x y then option_map (λ z. z ++ y) (acted s.high a x) else option_map (λ z. x ++ z) (acted s.low a y))
      unfolding op
      wide_op = ap (λ (w : List ℕ). option_map (code_of (whole s)) (acted (whole s) a w)) joined ∙ ap (option_map (code_of (whole s))) (wide_acted a arrow x y x_word y_word)

      high_codes : (o : Option (List ℕ)) → ((v : List ℕ) → o ≡ Some v → IsWord s.high v)
          → option_map (number s) (with_high c (option_map (code_of s.high) o)) ≡ option_map (code_of (whole s)) (option_map (λ z. z ++ y) o)
      high_codes None kept = refl
      high_codes (Some v) kept =
          ap (λ (n : ℕ). Some n) (ap (λ (l : ℕ). code_of s.high v * size s.low + l) (sym y_code) ∙ sym (code_joined_whole v y (kept v refl)))

      low_codes : (o : Option (List ℕ))
          → option_map (number s) (with_low c (option_map (code_of s.low) o)) ≡ option_map (code_of (whole s)) (option_map (λ z. x ++ z) o)
      low_codes None = refl
      low_codes (Some v) =
          ap (λ (n : ℕ). Some n) (ap (λ (h : ℕ). h * size s.low + code_of s.low v) (sym x_code) ∙ sym (code_joined_whole x v x_word))

      -- where the operator acts on the high half, and where on the low one
      pub wide_high : (next : Option ℕ) → acts_high s a x y ≡ true → next ≡ option_map (code_of s.high) (acted s.high a x)
          → option_map (number s) (with_high c next) ≡ op (whole s) a (number s c)
      wide_high next here next_is =
          ap (λ (n : Option ℕ). option_map (number s) (with_high c n)) next_is
          ∙ high_codes (acted s.high a x) (λ v led. operators_keep_words s.high a v x (factors_of_space s.high space.high) (record { index = arrow.index }) x_word led)
          ∙ ap (λ (b : Bool). option_map (code_of (whole s)) (if b then option_map (λ z. z ++ y) (acted s.high a x) else option_map (λ z. x ++ z) (acted s.low a y))) (sym here)
          ∙ sym wide_op

      pub wide_low : (next : Option ℕ) → acts_high s a x y ≡ false → next ≡ option_map (code_of s.low) (acted s.low a y)
          → option_map (number s) (with_low c next) ≡ op (whole s) a (number s c)
      wide_low next here next_is =
          ap (λ (n : Option ℕ). option_map (number s) (with_low c n)) next_is
          ∙ low_codes (acted s.low a y)
          ∙ ap (λ (b : Bool). option_map (code_of (whole s)) (if b then option_map (λ z. z ++ y) (acted s.high a x) else option_map (λ z. x ++ z) (acted s.low a y))) (sym here)
          ∙ sym wide_op

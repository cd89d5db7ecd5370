-- The operators lead from words to words.
use Rattle.std.proofs.Common.{◌≡◌, sym, ap, refl, subst, ℕ, ◌<◌, IsTrue, Bool, true, false, List, [], ◌∷◌, map, Option, Some, None, IfSome, ℤ, inl, inr}
use Rattle.std.specs.List.{list_all}
use Rattle.std.specs.Option.{option_map}
use Rattle.list_facts.proofs.Truth.{first_true, second_true}
use Rattle.crystal_cartan.specs.Types.{CartanType, IsCartan, HasIndex}
use Rattle.crystal_cartan.specs.Crystals.{Action}
use Rattle.crystal_cartan.specs.declared.types.Arrow.{Arrow}
use Rattle.vector_crystals.specs.Letters.{IsLetter, letter_count, letter_digit, letter_at}
use Rattle.vector_crystals.specs.VectorCrystals.{digit_action, letter_action}
use Rattle.vector_crystals.proofs.Digits.{letter_at-letter, letter_digit-below}
use Rattle.vector_crystals.proofs.Rules.{lower-letter, raise-letter}
use Rattle.spin_crystals.specs.declared.signs.Half.TheVariants.{Whole, Plus, Minus}
use Rattle.spin_crystals.proofs.DigitLaws.{lowered_digit-below, raised_digit-below}
use Rattle.tensor_words.specs.declared.spaces.Factor.{Factor}
use Rattle.tensor_words.specs.declared.spaces.Factor.TheVariants.{Vector, Spin, SpinPlus, SpinMinus}
use Rattle.tensor_words.specs.Spaces.{SpaceType, HasFactors, IsSpace, has_factor, base_size, base_action, size}
use Rattle.tensor_words.specs.Codes.{AreDigits, IsWord, code_of, word_of}
use Rattle.tensor_words.specs.TensorRule.{action, factor_actions}
use Rattle.tensor_words.specs.Operators.{IsArrow, acted, step_of, op, OperatorsKeepWords}
use Rattle.tensor_words.proofs.FactorSteps.{IsFactorStep, lowering, raising, lowered_step, raised_step}
use Rattle.tensor_words.proofs.SpaceWords.{code_below, word_back, IsWord-word_of}

-- what a mapped option comes from
pub mapped_some : {A B : Type 0} (g : A → B) (o : Option A) (u : B) → option_map g o ≡ Some u → (x : A) × (o ≡ Some x) × (g x ≡ u)
mapped_some g None u is = absurd (nothing is)
  where
    nothing : None ≡ Some u → ⊥
    nothing e = cc
mapped_some g (Some x) u is = (x, refl, cc)

letter_step :
    (t : CartanType) (o : Option ℤ) (e : ℕ) → IsCartan t → IfSome o (IsLetter t) → option_map (letter_digit t) o ≡ Some e → e < letter_count t
letter_step t o e c letters is = from o letters (mapped_some (letter_digit t) o e is)
  where
    from : (o : Option ℤ) → IfSome o (IsLetter t) → (x : ℤ) × (o ≡ Some x) × (letter_digit t x ≡ e) → e < letter_count t
    from o letters m =
        let there : IsLetter t m.0 = subst (λ (p : Option ℤ). IfSome p (IsLetter t)) m.1 letters in
        subst (λ (d : ℕ). d < letter_count t) m.2 (letter_digit-below t m.0 c there)

pub lowered_below :
    (t : CartanType) (i : ℕ) (f : Factor) (d e : ℕ) → IsCartan t → HasIndex t i → IsTrue (has_factor t.kind f) → d < base_size t f →
    (base_action t i f).lower d ≡ Some e → e < base_size t f
unfolding base_size base_action digit_action
lowered_below t i Vector d e c index had below is =
    letter_step t ((letter_action t i).lower (letter_at t d)) e c (lower-letter t i (letter_at t d) c index (letter_at-letter t d c below)) is
lowered_below t i Spin d e c index had below is = lowered_digit-below t Whole i d e c had index is
lowered_below t i SpinPlus d e c index had below is = lowered_digit-below t Plus i d e c had index is
lowered_below t i SpinMinus d e c index had below is = lowered_digit-below t Minus i d e c had index is

pub raised_below :
    (t : CartanType) (i : ℕ) (f : Factor) (d e : ℕ) → IsCartan t → HasIndex t i → IsTrue (has_factor t.kind f) → d < base_size t f →
    (base_action t i f).raise d ≡ Some e → e < base_size t f
unfolding base_size base_action digit_action
raised_below t i Vector d e c index had below is =
    letter_step t ((letter_action t i).raise (letter_at t d)) e c (raise-letter t i (letter_at t d) c index (letter_at-letter t d c below)) is
raised_below t i Spin d e c index had below is = raised_digit-below t Whole i d e c had index is
raised_below t i SpinPlus d e c index had below is = raised_digit-below t Plus i d e c had index is
raised_below t i SpinMinus d e c index had below is = raised_digit-below t Minus i d e c had index is

-- a step of one factor that leads from digits of each factor to digits of it
step_digits :
    (step : Action ℕ → ℕ → Option ℕ) (t : CartanType) (i : ℕ) (fs : List Factor) (w u : List ℕ) →
    ((f : Factor) (d e : ℕ) → IsTrue (has_factor t.kind f) → d < base_size t f → step (base_action t i f) d ≡ Some e → e < base_size t f) →
    IsTrue (list_all (has_factor t.kind) fs) → AreDigits (map (base_size t) fs) w → IsFactorStep step (map (base_action t i) fs) w u →
    AreDigits (map (base_size t) fs) u
step_digits step t i [] w u each had h is = absurd is
step_digits step t i (f ∷ fs) [] u each had h is = absurd h
step_digits step t i (f ∷ fs) (d ∷ ds) u each had h is =
    elim is [
      | inl (e, made, same) ↦ rw same (each f d e (first_true _ _ had) h.0 made, h.1)
      | inr (v, made, same) ↦ rw same (h.0, step_digits step t i fs ds v each (second_true (has_factor t.kind f) _ had) h.1 made)
    ]

pub lower_keeps : (s : SpaceType) (i : ℕ) (w u : List ℕ) → HasFactors s → HasIndex s.cartan i → IsWord s w → (action s i).lower w ≡ Some u → IsWord s u
unfolding action
lower_keeps s i w u factors index h is =
    step_digits lowering s.cartan i s.factors w u (λ f d e had below made. lowered_below s.cartan i f d e factors.cartan index had below made)
    factors.had h (lowered_step s.order (factor_actions s i) w u is)

pub raise_keeps : (s : SpaceType) (i : ℕ) (w u : List ℕ) → HasFactors s → HasIndex s.cartan i → IsWord s w → (action s i).raise w ≡ Some u → IsWord s u
unfolding action
raise_keeps s i w u factors index h is =
    step_digits raising s.cartan i s.factors w u (λ f d e had below made. raised_below s.cartan i f d e factors.cartan index had below made)
    factors.had h (raised_step s.order (factor_actions s i) w u is)

pub operators_keep_words : OperatorsKeepWords
operators_keep_words s a u w factors arrow h is = either a.down is
  where
    either : (down : Bool) → step_of down (action s a.index) w ≡ Some u → IsWord s u
    either true made = lower_keeps s a.index w u factors arrow.index h made
    either false made = raise_keeps s a.index w u factors arrow.index h made

pub acted_keeps : (s : SpaceType) (a : Arrow) (w u : List ℕ) → IsSpace s → IsArrow s a → IsWord s w → acted s a w ≡ Some u → IsWord s u
acted_keeps s a w u space arrow h is = operators_keep_words s a u w (record { cartan = space.cartan; had = space.had }) arrow h is

-- the operator on codes leads to codes of words
pub op_below : (s : SpaceType) (a : Arrow) (c y : ℕ) → IsSpace s → IsArrow s a → c < size s → op s a c ≡ Some y → y < size s
unfolding op
op_below s a c y space arrow lt is =
    let m : (u : List ℕ) × (acted s a (word_of s c) ≡ Some u) × (code_of s u ≡ y) = mapped_some (code_of s) (acted s a (word_of s c)) y is in
    subst (λ (n : ℕ). n < size s) m.2 (code_below s m.0 (acted_keeps s a (word_of s c) m.0 space arrow (IsWord-word_of s c lt) m.1))

-- the operator on codes is the operator on their words
pub op_word : (s : SpaceType) (a : Arrow) (c : ℕ) → IsSpace s → IsArrow s a → c < size s → acted s a (word_of s c) ≡ option_map (word_of s) (op s a c)
unfolding op
op_word s a c space arrow lt = back (acted s a (word_of s c)) (λ u is. acted_keeps s a (word_of s c) u space arrow (IsWord-word_of s c lt) is)
  where
    back : (o : Option (List ℕ)) → ((u : List ℕ) → o ≡ Some u → IsWord s u) → o ≡ option_map (word_of s) (option_map (code_of s) o)
    back None keeps = refl
    back (Some u) keeps = ap (λ v. Some v) (sym (word_back s u (keeps u refl)))

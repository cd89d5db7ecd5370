-- The laws of a seminormal crystal pass from the factors to the words, over any list of actions.
use Rattle.std.proofs.Common.{◌≡◌, refl, ◌+◌, ◌≤◌, ◌<◌, nat_le, nat_lt, if◌then◌else◌, Bool, true, false, List, [], ◌∷◌, Option, Some, None, ◌⊎◌, ◌↔◌, inl, inr, arith}
use Rattle.std.specs.Option.{option_map}
use Rattle.std.specs.Prelude.{⊤}
use Rattle.std.proofs.lemmas.Bool.Decides.{nat_tests}
use Rattle.crystal_cartan.specs.Crystals.{Action}
use Rattle.tensor_words.specs.TensorRule.{word_phi, word_eps, word_lower, word_raise, word_action}

-- what an action does at x, without the weights: the two operators undo each other, a length is 0 just where there is
-- no step, and a step takes one from one length and adds it to the other
pub record IsSteady {E : Type 0} (act : Action E) (x : E) : Type 0 where
  pub raised_back : (y : E) → act.lower x ≡ Some y → act.raise y ≡ Some x
  pub lowered_back : (y : E) → act.raise x ≡ Some y → act.lower y ≡ Some x
  pub lower_ends : (act.lower x ≡ None) ↔ (act.phi x ≡ 0)
  pub raise_ends : (act.raise x ≡ None) ↔ (act.eps x ≡ 0)
  pub lower_counts : (y : E) → act.lower x ≡ Some y → (act.phi x ≡ act.phi y + 1) × (act.eps y ≡ act.eps x + 1)
  pub raise_counts : (y : E) → act.raise x ≡ Some y → (act.eps x ≡ act.eps y + 1) × (act.phi y ≡ act.phi x + 1)

-- each action is steady at its element
abbrev pub AreSteady : {E : Type 0} → List (Action E) → List E → Type 0
AreSteady [] [] = ⊤
AreSteady [] (x ∷ w) = ⊥
AreSteady (act ∷ acts) [] = ⊥
AreSteady (act ∷ acts) (x ∷ w) = IsSteady act x × AreSteady acts w

-- a step at the first factor, or at the rest
pub first_step : {E : Type 0} (b : Bool) (l : Option E) (r : Option (List E)) (x : E) (w v : List E)
    → (if b then option_map (λ z. z ∷ w) l else option_map (λ z. x ∷ z) r) ≡ Some v
    → ((z : E) × (b ≡ true) × (l ≡ Some z) × (v ≡ z ∷ w)) ⊎ ((z : List E) × (b ≡ false) × (r ≡ Some z) × (v ≡ x ∷ z))
first_step true (Some z) r x w v h = inl (z, refl, refl, cc)
first_step true None r x w v h = cc
first_step false l (Some z) x w v h = inr (z, refl, refl, cc)
first_step false l None x w v h = cc

pub no_step : {E : Type 0} (b : Bool) (l : Option E) (r : Option (List E)) (x : E) (w : List E)
    → (if b then option_map (λ z. z ∷ w) l else option_map (λ z. x ∷ z) r) ≡ None
    → ((b ≡ true) × (l ≡ None)) ⊎ ((b ≡ false) × (r ≡ None))
no_step true (Some z) r x w h = cc
no_step true None r x w h = inl (refl, refl)
no_step false l (Some z) x w h = cc
no_step false l None x w h = inr (refl, refl)

module _ {E : Type 0} (act : Action E) (acts : List (Action E)) (x : E) (w : List E) (here : IsSteady act x) (rest : IsSteady (word_action acts) w) where
  cons_raised_back : (v : List E) → word_lower (act ∷ acts) (x ∷ w) ≡ Some v → word_raise (act ∷ acts) v ≡ Some (x ∷ w)
  cons_raised_back v h =
      elim (first_step (nat_le (word_phi acts w) (act.eps x)) (act.lower x) (word_lower acts w) x w v h) [
        | inl (z, b, l, e) ↦
            let counts : act.eps z ≡ act.eps x + 1 = (here.lower_counts z l).1 in
            let test : nat_lt (word_phi acts w) (act.eps z) ≡ true = grind (arith, nat_tests) in
            rw (e, test, here.raised_back z l) refl
        | inr (z, b, l, e) ↦
            let counts : word_phi acts w ≡ word_phi acts z + 1 = (rest.lower_counts z l).0 in
            let test : nat_lt (word_phi acts z) (act.eps x) ≡ false = grind (arith, nat_tests) in
            rw (e, test, rest.raised_back z l) refl
      ]

  cons_lowered_back : (v : List E) → word_raise (act ∷ acts) (x ∷ w) ≡ Some v → word_lower (act ∷ acts) v ≡ Some (x ∷ w)
  cons_lowered_back v h =
      elim (first_step (nat_lt (word_phi acts w) (act.eps x)) (act.raise x) (word_raise acts w) x w v h) [
        | inl (z, b, l, e) ↦
            let counts : act.eps x ≡ act.eps z + 1 = (here.raise_counts z l).0 in
            let test : nat_le (word_phi acts w) (act.eps z) ≡ true = grind (arith, nat_tests) in
            rw (e, test, here.lowered_back z l) refl
        | inr (z, b, l, e) ↦
            let counts : word_phi acts z ≡ word_phi acts w + 1 = (rest.raise_counts z l).1 in
            let test : nat_le (word_phi acts z) (act.eps x) ≡ false = grind (arith, nat_tests) in
            rw (e, test, rest.lowered_back z l) refl
      ]

  cons_lower_ends : (word_lower (act ∷ acts) (x ∷ w) ≡ None) ↔ (word_phi (act ∷ acts) (x ∷ w) ≡ 0)
  cons_lower_ends = (to, from)
    where
      to : word_lower (act ∷ acts) (x ∷ w) ≡ None → word_phi (act ∷ acts) (x ∷ w) ≡ 0
      to h = elim (no_step (nat_le (word_phi acts w) (act.eps x)) (act.lower x) (word_lower acts w) x w h) [
        | inl (b, l) ↦ let none : act.phi x ≡ 0 = here.lower_ends.0 l in grind (arith, nat_tests)
        | inr (b, l) ↦ let none : word_phi acts w ≡ 0 = rest.lower_ends.0 l in grind (arith, nat_tests)
      ]

      from : word_phi (act ∷ acts) (x ∷ w) ≡ 0 → word_lower (act ∷ acts) (x ∷ w) ≡ None
      from h =
          let test : nat_le (word_phi acts w) (act.eps x) ≡ true = grind (arith, nat_tests) in
          let none : act.lower x ≡ None = here.lower_ends.1 (omega arith) in
          rw (test, none) refl

  cons_raise_ends : (word_raise (act ∷ acts) (x ∷ w) ≡ None) ↔ (word_eps (act ∷ acts) (x ∷ w) ≡ 0)
  cons_raise_ends = (to, from)
    where
      to : word_raise (act ∷ acts) (x ∷ w) ≡ None → word_eps (act ∷ acts) (x ∷ w) ≡ 0
      to h = elim (no_step (nat_lt (word_phi acts w) (act.eps x)) (act.raise x) (word_raise acts w) x w h) [
        | inl (b, l) ↦ let none : act.eps x ≡ 0 = here.raise_ends.0 l in grind (arith, nat_tests)
        | inr (b, l) ↦ let none : word_eps acts w ≡ 0 = rest.raise_ends.0 l in grind (arith, nat_tests)
      ]

      from : word_eps (act ∷ acts) (x ∷ w) ≡ 0 → word_raise (act ∷ acts) (x ∷ w) ≡ None
      from h =
          let test : nat_lt (word_phi acts w) (act.eps x) ≡ false = grind (arith, nat_tests) in
          let none : word_raise acts w ≡ None = rest.raise_ends.1 (omega arith) in
          rw (test, none) refl

  cons_lower_counts : (v : List E) → word_lower (act ∷ acts) (x ∷ w) ≡ Some v
      → (word_phi (act ∷ acts) (x ∷ w) ≡ word_phi (act ∷ acts) v + 1) × (word_eps (act ∷ acts) v ≡ word_eps (act ∷ acts) (x ∷ w) + 1)
  cons_lower_counts v h =
      elim (first_step (nat_le (word_phi acts w) (act.eps x)) (act.lower x) (word_lower acts w) x w v h) [
        | inl (z, b, l, e) ↦
            let counts : (act.phi x ≡ act.phi z + 1) × (act.eps z ≡ act.eps x + 1) = here.lower_counts z l in
            let over : word_phi acts w ≤ act.eps x = grind (arith, nat_tests) in
            rw e (omega arith, omega arith)
        | inr (z, b, l, e) ↦
            let counts : (word_phi acts w ≡ word_phi acts z + 1) × (word_eps acts z ≡ word_eps acts w + 1) = rest.lower_counts z l in
            let below : act.eps x < word_phi acts w = grind (arith, nat_tests) in
            rw e (omega arith, omega arith)
      ]

  cons_raise_counts : (v : List E) → word_raise (act ∷ acts) (x ∷ w) ≡ Some v
      → (word_eps (act ∷ acts) (x ∷ w) ≡ word_eps (act ∷ acts) v + 1) × (word_phi (act ∷ acts) v ≡ word_phi (act ∷ acts) (x ∷ w) + 1)
  cons_raise_counts v h =
      elim (first_step (nat_lt (word_phi acts w) (act.eps x)) (act.raise x) (word_raise acts w) x w v h) [
        | inl (z, b, l, e) ↦
            let counts : (act.eps x ≡ act.eps z + 1) × (act.phi z ≡ act.phi x + 1) = here.raise_counts z l in
            let over : word_phi acts w < act.eps x = grind (arith, nat_tests) in
            rw e (omega arith, omega arith)
        | inr (z, b, l, e) ↦
            let counts : (word_eps acts w ≡ word_eps acts z + 1) × (word_phi acts z ≡ word_phi acts w + 1) = rest.raise_counts z l in
            let below : act.eps x ≤ word_phi acts w = grind (arith, nat_tests) in
            rw e (omega arith, omega arith)
      ]

  cons_steady : IsSteady (word_action (act ∷ acts)) (x ∷ w)
  cons_steady = record {
    raised_back = cons_raised_back;
    lowered_back = cons_lowered_back;
    lower_ends = cons_lower_ends;
    raise_ends = cons_raise_ends;
    lower_counts = cons_lower_counts;
    raise_counts = cons_raise_counts;
  }

pub word_steady : {E : Type 0} (acts : List (Action E)) (w : List E) → AreSteady acts w → IsSteady (word_action acts) w
word_steady [] w h = record {
  raised_back = λ y e. cc;
  lowered_back = λ y e. cc;
  lower_ends = (λ e. refl, λ e. refl);
  raise_ends = (λ e. refl, λ e. refl);
  lower_counts = λ y e. cc;
  raise_counts = λ y e. cc;
}
word_steady (act ∷ acts) [] h = absurd h
word_steady (act ∷ acts) (x ∷ w) h = cons_steady act acts x w h.0 (word_steady acts w h.1)

-- Kashiwara's order is the standard order with the two operators, and their two lengths, exchanged: on each factor and on the word.
use Rattle.std.proofs.Common.{◌≡◌, sym, refl, subst, ℕ, nat_le, nat_lt, if◌then◌else◌, true, false, List, [], ◌∷◌, map, inl, inr, arith}
use Rattle.std.proofs.lemmas.Bool.{cases_lt}
use Rattle.std.proofs.lemmas.List.{map-id}
use Rattle.std.proofs.lemmas.Simd.{map-map}
use Rattle.std.proofs.lemmas.Bool.Decides.{nat_tests}
use Rattle.crystal_cartan.specs.Crystals.{Action}
use Rattle.tensor_words.specs.declared.spaces.Order.{Order}
use Rattle.tensor_words.specs.declared.spaces.Order.TheVariants.{Standard, Kashiwara}
use Rattle.tensor_words.specs.TensorRule.{word_action, action_in, turned, as_standard, factor_actions, action, seen_actions}
use Rattle.tensor_words.specs.Spaces.{SpaceType, base_action}
use Rattle.tensor_words.proofs.WordLaws.{IsSteady, AreSteady, word_steady}

pub either_way : {X : Type 0} (a b : ℕ) (x y : X) → (if nat_le a b then x else y) ≡ (if nat_lt b a then y else x)
either_way a b x y =
    elim (cases_lt b a) [
      | inl more ↦
          let first : nat_le a b ≡ false = grind (arith, nat_tests) in
          let second : nat_lt b a ≡ true = grind (arith, nat_tests) in
          rw (first, second) refl
      | inr less ↦
          let first : nat_le a b ≡ true = grind (arith, nat_tests) in
          let second : nat_lt b a ≡ false = grind (arith, nat_tests) in
          rw (first, second) refl
    ]

pub steady_turned : {E : Type 0} (act : Action E) (x : E) → IsSteady act x → IsSteady (turned act) x
steady_turned act x h = record {
  raised_back = h.lowered_back;
  lowered_back = h.raised_back;
  lower_ends = h.raise_ends;
  raise_ends = h.lower_ends;
  lower_counts = h.raise_counts;
  raise_counts = h.lower_counts;
}

pub all_steady_turned : {E : Type 0} (acts : List (Action E)) (w : List E) → AreSteady acts w → AreSteady (map turned acts) w
all_steady_turned [] [] h = tt
all_steady_turned [] (x ∷ w) h = absurd h
all_steady_turned (act ∷ acts) [] h = absurd h
all_steady_turned (act ∷ acts) (x ∷ w) h = (steady_turned act x h.0, all_steady_turned acts w h.1)

-- two actions do the same at x
pub record IsSame {E : Type 0} (a b : Action E) (x : E) : Type 0 where
  pub eps : a.eps x ≡ b.eps x
  pub phi : a.phi x ≡ b.phi x
  pub lower : a.lower x ≡ b.lower x
  pub raise : a.raise x ≡ b.raise x

-- each order is the standard one as the standard order sees the factors and the word
pub standard_rule : {E : Type 0} (o : Order) (acts : List (Action E)) (w : List E)
    → IsSame (as_standard o (action_in o acts)) (word_action (map (as_standard o) acts)) w
standard_rule Standard acts w = rw (map-id acts) (record { eps = refl; phi = refl; lower = refl; raise = refl })
standard_rule Kashiwara acts w = record { eps = refl; phi = refl; lower = refl; raise = refl }

pub near_rule : (s : SpaceType) (i : ℕ) (w : List ℕ) → IsSame (as_standard s.order (action s i)) (word_action (seen_actions s i)) w
unfolding action
near_rule s i w = rw (map-map (as_standard s.order) (base_action s.cartan i) s.factors) at (standard_rule s.order (factor_actions s i) w)

-- the same where the order is known
pub rule_in : (s : SpaceType) (i : ℕ) (w : List ℕ) (o : Order) → o ≡ s.order → IsSame (as_standard o (action s i)) (word_action (seen_actions s i)) w
rule_in s i w o is = subst (λ p. IsSame (as_standard p (action s i)) (word_action (seen_actions s i)) w) (sym is) (near_rule s i w)

-- the laws of a seminormal crystal pass to the words, in each order
pub action_steady : {E : Type 0} (o : Order) (acts : List (Action E)) (w : List E) → AreSteady acts w → IsSteady (action_in o acts) w
action_steady Standard acts w h = word_steady acts w h
action_steady Kashiwara acts w h = steady_turned (word_action (map turned acts)) w (word_steady (map turned acts) w (all_steady_turned acts w h))

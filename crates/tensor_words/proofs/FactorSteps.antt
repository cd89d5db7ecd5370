-- An operator of a word acts on one factor.
use Rattle.std.proofs.Common.{◌≡◌, refl, sym, ◌∙◌, map, nat_le, nat_lt, if◌then◌else◌, Bool, List, [], ◌∷◌, Option, Some, ◌⊎◌, inl, inr}
use Rattle.std.specs.Option.{option_map}
use Rattle.crystal_cartan.specs.Crystals.{Action}
use Rattle.tensor_words.specs.declared.spaces.Order.{Order}
use Rattle.tensor_words.specs.declared.spaces.Order.TheVariants.{Standard, Kashiwara}
use Rattle.tensor_words.specs.TensorRule.{word_phi, word_lower, word_raise, turned, action_in}
use Rattle.tensor_words.proofs.WordLaws.{first_step}

-- v is w after this step of one factor
abbrev pub IsFactorStep : {E : Type 0} → (Action E → E → Option E) → List (Action E) → List E → List E → Type 0
IsFactorStep step [] w v = ⊥
IsFactorStep step (act ∷ acts) [] v = ⊥
IsFactorStep {E} step (act ∷ acts) (x ∷ w) v =
    ((z : E) × (step act x ≡ Some z) × (v ≡ z ∷ w)) ⊎ ((z : List E) × IsFactorStep step acts w z × (v ≡ x ∷ z))

abbrev pub lowering : {E : Type 0} → Action E → E → Option E
lowering act x = act.lower x

abbrev pub raising : {E : Type 0} → Action E → E → Option E
raising act x = act.raise x

-- what the first factor and the rest do is a step of one factor
first_or_rest : {E : Type 0} (step : Action E → E → Option E) (act : Action E) (acts : List (Action E)) (b : Bool) (r : Option (List E)) (x : E) (w v : List E)
    → ((z : List E) → r ≡ Some z → IsFactorStep step acts w z)
    → (if b then option_map (λ z. z ∷ w) (step act x) else option_map (λ z. x ∷ z) r) ≡ Some v → IsFactorStep step (act ∷ acts) (x ∷ w) v
first_or_rest step act acts b r x w v later h =
    elim (first_step b (step act x) r x w v h) [
      | inl (z, t, l, e) ↦ inl (z, l, e)
      | inr (z, t, l, e) ↦ inr (z, later z l, e)
    ]

standard_lower : {E : Type 0} (acts : List (Action E)) (w v : List E) → word_lower acts w ≡ Some v → IsFactorStep lowering acts w v
standard_lower [] w v h = cc
standard_lower (act ∷ acts) [] v h = cc
standard_lower (act ∷ acts) (x ∷ w) v h =
    first_or_rest lowering act acts (nat_le (word_phi acts w) (act.eps x)) (word_lower acts w) x w v (λ z made. standard_lower acts w z made) h

standard_raise : {E : Type 0} (acts : List (Action E)) (w v : List E) → word_raise acts w ≡ Some v → IsFactorStep raising acts w v
standard_raise [] w v h = cc
standard_raise (act ∷ acts) [] v h = cc
standard_raise (act ∷ acts) (x ∷ w) v h =
    first_or_rest raising act acts (nat_lt (word_phi acts w) (act.eps x)) (word_raise acts w) x w v (λ z made. standard_raise acts w z made) h

-- a step of one turned factor is the other step of that factor
turned_step : {E : Type 0} (step other : Action E → E → Option E) → ((act : Action E) (x : E) → step (turned act) x ≡ other act x)
    → (acts : List (Action E)) (w v : List E) → IsFactorStep step (map turned acts) w v → IsFactorStep other acts w v
turned_step step other same [] w v h = absurd h
turned_step step other same (act ∷ acts) [] v h = absurd h
turned_step step other same (act ∷ acts) (x ∷ w) v h =
    elim h [
      | inl (z, made, e) ↦ inl (z, sym (same act x) ∙ made, e)
      | inr (z, later, e) ↦ inr (z, turned_step step other same acts w z later, e)
    ]

pub lowered_step : {E : Type 0} (o : Order) (acts : List (Action E)) (w v : List E) → (action_in o acts).lower w ≡ Some v → IsFactorStep lowering acts w v
lowered_step Standard acts w v h = standard_lower acts w v h
lowered_step Kashiwara acts w v h = turned_step raising lowering (λ act x. refl) acts w v (standard_raise (map turned acts) w v h)

pub raised_step : {E : Type 0} (o : Order) (acts : List (Action E)) (w v : List E) → (action_in o acts).raise w ≡ Some v → IsFactorStep raising acts w v
raised_step Standard acts w v h = standard_raise acts w v h
raised_step Kashiwara acts w v h = turned_step lowering raising (λ act x. refl) acts w v (standard_lower (map turned acts) w v h)

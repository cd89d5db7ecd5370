-- The passes over the factors, and that they find what the tensor product rule says.
use Rattle.std.proofs.Common.{◌≡◌, ◌∙◌, ap, refl, ℕ, suc, ◌+◌, ◌-◌, ◌<◌, nat_le, nat_lt, if◌then◌else◌, Bool, true, false, List, [], ◌∷◌, map, length, drop, get_or, set, Option, Some, None, MatchOption, inl, inr, arith}
use Rattle.std.specs.Option.{option_map}
use Rattle.std.proofs.lemmas.Bool.{cases_lt}
use Rattle.std.proofs.lemmas.Bool.Decides.{nat_tests}
use Rattle.std.proofs.lemmas.List.{drop_more}
use Rattle.crystal_cartan.specs.Crystals.{Action}
use Rattle.tensor_words.specs.declared.spaces.Factor.{Factor}
use Rattle.tensor_words.specs.declared.spaces.Factor.TheVariants.{Vector}
use Rattle.tensor_words.specs.TensorRule.{word_phi, word_eps, word_lower, word_raise}

-- the signs eps that are open behind the factors, if m are open before them: those of one factor close signs eps before it by phi
abbrev pub open_eps : {E : Type 0} → List (Action E) → ℕ → List E → ℕ
open_eps [] m w = m
open_eps (act ∷ acts) m [] = m
open_eps (act ∷ acts) m (x ∷ w) = open_eps acts (m - act.phi x + act.eps x) w

pub eps_by_pass : {E : Type 0} (acts : List (Action E)) (m : ℕ) (w : List E) → open_eps acts m w ≡ word_eps acts w + (m - word_phi acts w)
eps_by_pass [] m w = omega arith
eps_by_pass (act ∷ acts) m [] = omega arith
eps_by_pass (act ∷ acts) m (x ∷ w) = omega (arith, eps_by_pass acts (m - act.phi x + act.eps x) w)

-- the place of the last sign phi that is left over: k is the place of the first of these factors, m signs eps are open before it,
-- and `found` is the place so far
abbrev pub last_phi : {E : Type 0} → List (Action E) → ℕ → ℕ → Option ℕ → List E → Option ℕ
last_phi [] m k found w = found
last_phi (act ∷ acts) m k found [] = found
last_phi (act ∷ acts) m k found (x ∷ w) =
    last_phi acts (m - act.phi x + act.eps x) (k + 1) (if nat_lt m (act.phi x) then Some k else found) w

-- the place at which the rule lowers
abbrev pub lower_place : {E : Type 0} → List (Action E) → List E → ℕ
lower_place [] w = 0
lower_place (act ∷ acts) [] = 0
lower_place (act ∷ acts) (x ∷ w) = if nat_le (word_phi acts w) (act.eps x) then 0 else suc (lower_place acts w)

-- one factor with these numbers of signs, before factors with q signs phi left over
one_factor : (f e q m k p : ℕ) (found : Option ℕ)
    → (if nat_lt (m - f + e) q then Some (k + 1 + p) else if nat_lt m f then Some k else found)
    ≡ (if nat_lt m (f + (q - e)) then Some (k + (if nat_le q e then 0 else suc p)) else found)
one_factor f e q m k p found =
    elim (cases_lt e q) [
      | inl more ↦
          let second : nat_le q e ≡ false = grind (arith, nat_tests) in
          elim (cases_lt (m - f + e) q) [
            | inl left ↦
                let first : nat_lt (m - f + e) q ≡ true = grind (arith, nat_tests) in
                let third : nat_lt m (f + (q - e)) ≡ true = grind (arith, nat_tests) in
                rw (first, second, third) (ap Some (omega arith))
            | inr closed ↦
                let first : nat_lt (m - f + e) q ≡ false = grind (arith, nat_tests) in
                let third : nat_lt m (f + (q - e)) ≡ false = grind (arith, nat_tests) in
                let fourth : nat_lt m f ≡ false = grind (arith, nat_tests) in
                rw (first, third, fourth) refl
          ]
      | inr less ↦
          let first : nat_lt (m - f + e) q ≡ false = grind (arith, nat_tests) in
          let second : nat_le q e ≡ true = grind (arith, nat_tests) in
          let third : f + (q - e) ≡ f = omega arith in
          let place : k + 0 ≡ k = omega arith in
          rw (first, second, third, place) refl
    ]

pub last_phi_found : {E : Type 0} (acts : List (Action E)) (m k : ℕ) (found : Option ℕ) (w : List E)
    → last_phi acts m k found w ≡ (if nat_lt m (word_phi acts w) then Some (k + lower_place acts w) else found)
last_phi_found [] m k found w =
    let test : nat_lt m 0 ≡ false = grind (arith, nat_tests) in
    rw test refl
last_phi_found (act ∷ acts) m k found [] =
    let test : nat_lt m 0 ≡ false = grind (arith, nat_tests) in
    rw test refl
last_phi_found (act ∷ acts) m k found (x ∷ w) =
    last_phi_found acts (m - act.phi x + act.eps x) (k + 1) (if nat_lt m (act.phi x) then Some k else found) w
    ∙ one_factor (act.phi x) (act.eps x) (word_phi acts w) m k (lower_place acts w) found

mapped_twice : {A B C : Type 0} (f : A → B) (g : B → C) (o : Option A) → option_map g (option_map f o) ≡ option_map (λ x. g (f x)) o
mapped_twice f g None = refl
mapped_twice f g (Some x) = refl

-- an operator acts at this place of the word as it does at the factor there
pub record ActsAt (fs : List Factor) (w : List ℕ) (p : ℕ) (step : Factor → ℕ → Option ℕ) (image : Option (List ℕ)) : Type 0 where
  pub below : p < length fs
  pub within : p < length w
  pub value : image ≡ option_map (λ y. set w p y) (step (get_or fs p Vector) (get_or w p 0))

acts_here : (f : Factor) (fs : List Factor) (x : ℕ) (w : List ℕ) (step : Factor → ℕ → Option ℕ)
    → ActsAt (f ∷ fs) (x ∷ w) 0 step (option_map (λ z. z ∷ w) (step f x))
acts_here f fs x w step = record { below = omega arith; within = omega arith; value = refl }

acts_later : (f : Factor) (fs : List Factor) (x : ℕ) (w : List ℕ) (p : ℕ) (step : Factor → ℕ → Option ℕ) (value : Option (List ℕ))
    → ActsAt fs w p step value → ActsAt (f ∷ fs) (x ∷ w) (suc p) step (option_map (λ z. x ∷ z) value)
acts_later f fs x w p step value h = record {
  below = omega (arith, h.below);
  within = omega (arith, h.within);
  value = rw h.value (mapped_twice (λ y. set w p y) (λ z. x ∷ z) (step (get_or fs p Vector) (get_or w p 0)));
}

pub lower_at : (g : Factor → Action ℕ) (fs : List Factor) (w : List ℕ) → 0 < word_phi (map g fs) w
    → ActsAt fs w (lower_place (map g fs) w) (λ f. (g f).lower) (word_lower (map g fs) w)
lower_at g [] w h = absurd (omega arith)
lower_at g (f ∷ fs) [] h = absurd (omega arith)
lower_at g (f ∷ fs) (x ∷ w) h =
    elim (cases_lt ((g f).eps x) (word_phi (map g fs) w)) [
      | inl more ↦
          let test : nat_le (word_phi (map g fs) w) ((g f).eps x) ≡ false = grind (arith, nat_tests) in
          rw test (acts_later f fs x w (lower_place (map g fs) w) (λ k. (g k).lower) (word_lower (map g fs) w) (lower_at g fs w (omega arith)))
      | inr less ↦
          let test : nat_le (word_phi (map g fs) w) ((g f).eps x) ≡ true = grind (arith, nat_tests) in
          rw test (acts_here f fs x w (λ k. (g k).lower))
    ]

-- the place of the first sign eps that is left over
abbrev pub first_eps : {E : Type 0} → List (Action E) → List E → Option ℕ
first_eps [] w = None
first_eps (act ∷ acts) [] = None
first_eps (act ∷ acts) (x ∷ w) = if nat_lt (word_phi acts w) (act.eps x) then Some 0 else option_map (λ p. suc p) (first_eps acts w)

-- where the rule raises
abbrev pub RaisesAt : (Factor → Action ℕ) → List Factor → List ℕ → Option ℕ → Option (List ℕ) → Type 0
RaisesAt g fs w found value = MatchOption found (value ≡ None) (λ p. ActsAt fs w p (λ f. (g f).raise) value)

raises_later : (g : Factor → Action ℕ) (f : Factor) (fs : List Factor) (x : ℕ) (w : List ℕ) (found : Option ℕ) (value : Option (List ℕ))
    → RaisesAt g fs w found value → RaisesAt g (f ∷ fs) (x ∷ w) (option_map (λ p. suc p) found) (option_map (λ z. x ∷ z) value)
raises_later g f fs x w None value h = rw h refl
raises_later g f fs x w (Some p) value h = acts_later f fs x w p (λ k. (g k).raise) value h

pub raise_at : (g : Factor → Action ℕ) (fs : List Factor) (w : List ℕ) → RaisesAt g fs w (first_eps (map g fs) w) (word_raise (map g fs) w)
raise_at g [] w = refl
raise_at g (f ∷ fs) [] = refl
raise_at g (f ∷ fs) (x ∷ w) =
    elim (nat_lt (word_phi (map g fs) w) ((g f).eps x)) as (λ b.
    RaisesAt g (f ∷ fs) (x ∷ w) (if b then Some 0 else option_map (λ p. suc p) (first_eps (map g fs) w))
    (if b then option_map (λ z. z ∷ w) ((g f).raise x) else option_map (λ z. x ∷ z) (word_raise (map g fs) w))) [
      | true ↦ acts_here f fs x w (λ k. (g k).raise)
      | false ↦ raises_later g f fs x w (first_eps (map g fs) w) (word_raise (map g fs) w) (raise_at g fs w)
    ]

-- the factors from the place k on
abbrev pub acts_from : (Factor → Action ℕ) → List Factor → ℕ → List (Action ℕ)
acts_from g fs k = map g (drop k fs)

-- the place of the first sign eps left over from the place k on
abbrev pub first_eps_from : (Factor → Action ℕ) → List Factor → List ℕ → ℕ → Option ℕ
first_eps_from g fs w k = option_map (λ p. k + p) (first_eps (acts_from g fs k) (drop k w))

module _ (g : Factor → Action ℕ) (fs : List Factor) (w : List ℕ) (k : ℕ) (below : k < length fs) (within : k < length w) where
  pub open_eps_step : (m : ℕ) → open_eps (acts_from g fs k) m (drop k w)
      ≡ open_eps (acts_from g fs (k + 1)) (m - (g (get_or fs k Vector)).phi (get_or w k 0) + (g (get_or fs k Vector)).eps (get_or w k 0)) (drop (k + 1) w)
  open_eps_step m = rw (drop_more fs k Vector below, drop_more w k 0 within) refl

  pub last_phi_step : (m : ℕ) (found : Option ℕ) → last_phi (acts_from g fs k) m k found (drop k w)
      ≡ last_phi (acts_from g fs (k + 1)) (m - (g (get_or fs k Vector)).phi (get_or w k 0) + (g (get_or fs k Vector)).eps (get_or w k 0)) (k + 1)
      (if nat_lt m ((g (get_or fs k Vector)).phi (get_or w k 0)) then Some k else found) (drop (k + 1) w)
  last_phi_step m found = rw (drop_more fs k Vector below, drop_more w k 0 within) refl

  pub phi_step : word_phi (acts_from g fs k) (drop k w)
      ≡ (g (get_or fs k Vector)).phi (get_or w k 0) + (word_phi (acts_from g fs (k + 1)) (drop (k + 1) w) - (g (get_or fs k Vector)).eps (get_or w k 0))
  phi_step = rw (drop_more fs k Vector below, drop_more w k 0 within) refl

  pub first_eps_step : first_eps_from g fs w k
      ≡ (if nat_lt (word_phi (acts_from g fs (k + 1)) (drop (k + 1) w)) ((g (get_or fs k Vector)).eps (get_or w k 0)) then Some k else first_eps_from g fs w (k + 1))
  first_eps_step =
      rw (drop_more fs k Vector below, drop_more w k 0 within)
      (shifted (nat_lt (word_phi (acts_from g fs (k + 1)) (drop (k + 1) w)) ((g (get_or fs k Vector)).eps (get_or w k 0)))
      (first_eps (acts_from g fs (k + 1)) (drop (k + 1) w)))
    where
      shifted : (b : Bool) (o : Option ℕ) → option_map (λ p. k + p) (if b then Some 0 else option_map (λ p. suc p) o) ≡ (if b then Some k else option_map (λ p. k + 1 + p) o)
      shifted true o = ap Some (omega arith)
      shifted false None = refl
      shifted false (Some p) = ap Some (omega arith)

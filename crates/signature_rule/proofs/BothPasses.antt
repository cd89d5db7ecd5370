-- The leftmost sign eps that is left over, found from left to right.
use Rattle.std.proofs.Common.{◌≡◌, ◌∙◌, sym, ap, refl, ℕ, zero, suc, ◌+◌, ◌-◌, ◌≤◌, ◌<◌, nat_le, nat_lt, if◌then◌else◌, true, false, List, [], ◌∷◌, length, drop, get_or, Option, Some, None, inl, inr, arith}
use Rattle.std.specs.Option.{option_map}
use Rattle.std.proofs.lemmas.Bool.{cases_lt}
use Rattle.std.proofs.lemmas.Bool.Decides.{nat_tests}
use Rattle.std.proofs.lemmas.List.{drop_more}
use Rattle.crystal_cartan.specs.Crystals.{Action}
use Rattle.tensor_words.specs.declared.spaces.Factor.{Factor}
use Rattle.tensor_words.specs.declared.spaces.Factor.TheVariants.{Vector}
use Rattle.tensor_words.specs.Spaces.{SpaceType}
use Rattle.tensor_words.specs.TensorRule.{word_phi}
use Rattle.signature_rule.specs.Passes.{AreSigns, OpensAt, bottom}
use Rattle.signature_rule.proofs.Signs.{first_eps, acts_from}
use Rattle.signature_rule.proofs.PassSteps.{factor_acts, none_left, raise_placed}
use Rattle.tensor_words.specs.TensorRule.{seen_action}
use Rattle.tensor_words.proofs.SpaceWords.{length_word}

-- the place of the first sign eps that is open behind the factors: k is the place of the first of these factors, m signs eps are open
-- before it, and `found` is the place of the first of those
abbrev pub bottom_eps : {E : Type 0} → List (Action E) → ℕ → ℕ → Option ℕ → List E → Option ℕ
bottom_eps [] m k found w = found
bottom_eps (act ∷ acts) m k found [] = found
bottom_eps (act ∷ acts) m k found (x ∷ w) = bottom_eps acts (m - act.phi x + act.eps x) (k + 1) (bottom m (act.phi x) (act.eps x) k found) w

-- one factor with these numbers of signs, before factors with q signs phi left over whose first sign eps is at o
one_factor : (f e q m k : ℕ) (found o : Option ℕ) → (m ≡ 0 → found ≡ None)
    → (if nat_lt q (m - f + e) then bottom m f e k found else option_map (λ p. k + 1 + p) o)
    ≡ (if nat_lt (f + (q - e)) m then found else option_map (λ p. k + p) (if nat_lt q e then Some 0 else option_map (λ p. suc p) o))
one_factor f e q m k found o none =
    elim (cases_lt (f + (q - e)) m) [
      | inl kept ↦
          let first : nat_lt q (m - f + e) ≡ true = grind (arith, nat_tests) in
          let second : nat_lt (f + (q - e)) m ≡ true = grind (arith, nat_tests) in
          let third : nat_le m f ≡ false = grind (arith, nat_tests) in
          rw (first, second, third) refl
      | inr closed ↦
          let second : nat_lt (f + (q - e)) m ≡ false = grind (arith, nat_tests) in
          elim (cases_lt q e) [
            | inl more ↦
                let first : nat_lt q (m - f + e) ≡ true = grind (arith, nat_tests) in
                let third : nat_le m f ≡ true = grind (arith, nat_tests) in
                let fourth : nat_lt 0 e ≡ true = grind (arith, nat_tests) in
                let fifth : nat_lt q e ≡ true = grind (arith, nat_tests) in
                let place : k + 0 ≡ k = omega arith in
                rw (second, first, third, fourth, fifth, place) refl
            | inr less ↦
                let first : nat_lt q (m - f + e) ≡ false = grind (arith, nat_tests) in
                let fifth : nat_lt q e ≡ false = grind (arith, nat_tests) in
                rw (second, first, fifth) (shifted o)
          ]
    ]
  where
    shifted : (o : Option ℕ) → option_map (λ p. k + 1 + p) o ≡ option_map (λ p. k + p) (option_map (λ p. suc p) o)
    shifted None = refl
    shifted (Some p) = ap Some (omega arith)

bottom_none : (m f e k : ℕ) (found : Option ℕ) → m - f + e ≡ 0 → bottom m f e k found ≡ None
bottom_none m f e k found h =
    let first : nat_le m f ≡ true = grind (arith, nat_tests) in
    let second : nat_lt 0 e ≡ false = grind (arith, nat_tests) in
    rw (first, second) refl

no_factors : (m k : ℕ) (found : Option ℕ) → (m ≡ 0 → found ≡ None) → found ≡ (if nat_lt 0 m then found else None)
no_factors zero k found none = none refl
no_factors (suc m) k found none =
    let test : nat_lt 0 (suc m) ≡ true = grind (arith, nat_tests) in
    rw test refl

bottom_found : {E : Type 0} (acts : List (Action E)) (m k : ℕ) (found : Option ℕ) (w : List E) → (m ≡ 0 → found ≡ None)
    → bottom_eps acts m k found w ≡ (if nat_lt (word_phi acts w) m then found else option_map (λ p. k + p) (first_eps acts w))
bottom_found [] m k found w none = no_factors m k found none
bottom_found (act ∷ acts) m k found [] none = no_factors m k found none
bottom_found (act ∷ acts) m k found (x ∷ w) none =
    bottom_found acts (m - act.phi x + act.eps x) (k + 1) (bottom m (act.phi x) (act.eps x) k found) w (bottom_none m (act.phi x) (act.eps x) k found)
    ∙ one_factor (act.phi x) (act.eps x) (word_phi acts w) m k found (first_eps acts w) none

bottom_step : (g : Factor → Action ℕ) (fs : List Factor) (w : List ℕ) (k : ℕ) (m : ℕ) (found : Option ℕ) → k < length fs → k < length w
    → bottom_eps (acts_from g fs k) m k found (drop k w)
    ≡ bottom_eps (acts_from g fs (k + 1)) (m - (g (get_or fs k Vector)).phi (get_or w k 0) + (g (get_or fs k Vector)).eps (get_or w k 0)) (k + 1)
    (bottom m ((g (get_or fs k Vector)).phi (get_or w k 0)) ((g (get_or fs k Vector)).eps (get_or w k 0)) k found) (drop (k + 1) w)
bottom_step g fs w k m found below within = rw (drop_more fs k Vector below, drop_more w k 0 within) refl

-- m signs eps are open before the place k, and `found` is the place of the first of those
pub record IsBottomPass (s : SpaceType) (i : ℕ) (w : List ℕ) (k m : ℕ) (found : Option ℕ) : Type 0 where
  pub same : bottom_eps (factor_acts s i k) m k found (drop k w) ≡ bottom_eps (factor_acts s i 0) 0 0 None w

pub bottom_next : (s : SpaceType) (i : ℕ) (w : List ℕ) (k m e f : ℕ) (found : Option ℕ) → AreSigns s i w k e f → IsBottomPass s i w k m found
    → IsBottomPass s i w (k + 1) (m - f + e) (bottom m f e k found)
bottom_next s i w k m e f found signs p = record {
  same =
      rw (signs.eps, signs.phi)
      (sym (bottom_step (seen_action s i) s.factors w k m found signs.below (omega (arith, length_word s w signs.word, signs.below))) ∙ p.same);
}

pub bottom_end : (s : SpaceType) (i : ℕ) (w : List ℕ) (k m : ℕ) (found : Option ℕ) → length s.factors ≤ k → IsBottomPass s i w k m found
    → OpensAt s.order s i w found
bottom_end s i w k m found all p =
    let out : found ≡ bottom_eps (factor_acts s i 0) 0 0 None w = rw (none_left s i k all) at p.same in
    let test : nat_lt (word_phi (factor_acts s i 0) w) 0 ≡ false = grind (arith, nat_tests) in
    raise_placed s i w found (out ∙ rw test at (bottom_found (factor_acts s i 0) 0 0 None w (λ h. refl)))

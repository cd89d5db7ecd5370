-- What the loops of the passes keep.
use Rattle.std.proofs.Common.{◌≡◌, ◌∙◌, sym, ap, refl, ℕ, ◌+◌, ◌-◌, ◌*◌, ◌≤◌, ◌<◌, nat_lt, if◌then◌else◌, Bool, true, false, List, [], length, drop, Option, Some, None, ◌↔◌, arith}
use Rattle.std.specs.Option.{option_map}
use Rattle.std.proofs.lemmas.Bool.Decides.{nat_tests}
use Rattle.std.proofs.lemmas.List.{drop_all}
use Rattle.crystal_cartan.specs.Types.{HasIndex}
use Rattle.crystal_cartan.specs.Crystals.{Action}
use Rattle.tensor_words.specs.declared.spaces.Order.{Order}
use Rattle.tensor_words.specs.declared.spaces.Order.TheVariants.{Standard, Kashiwara}
use Rattle.tensor_words.specs.Spaces.{SpaceType, IsSpace}
use Rattle.tensor_words.specs.Codes.{IsWord}
use Rattle.tensor_words.specs.TensorRule.{word_phi, word_raise, word_action, action, as_standard}
use Rattle.signature_rule.specs.Passes.{AreSigns, ClosesAt, OpensAt}
use Rattle.tensor_words.proofs.KeptWords.{factors_of_space}
use Rattle.signature_rule.proofs.Signs.{open_eps, eps_by_pass, last_phi, last_phi_found, lower_place, lower_at, first_eps, RaisesAt, raise_at, acts_from, first_eps_from, open_eps_step, last_phi_step, phi_step, first_eps_step}
use Rattle.tensor_words.proofs.SpaceWords.{length_word}
use Rattle.tensor_words.specs.TensorRule.{seen_action}
use Rattle.tensor_words.proofs.Turned.{IsSame, near_rule}
use Rattle.tensor_words.proofs.WordWeights.{seminormal_word}

-- how one index acts on the factors from the place k on, and on the word, as the standard order sees it
abbrev pub factor_acts : SpaceType → ℕ → ℕ → List (Action ℕ)
factor_acts s i k = acts_from (seen_action s i) s.factors k

abbrev pub whole : SpaceType → ℕ → Action (List ℕ)
whole s i = as_standard s.order (action s i)

pub none_left : (s : SpaceType) (i : ℕ) (k : ℕ) → length s.factors ≤ k → factor_acts s i k ≡ []
none_left s i k all = rw (drop_all k s.factors all) refl

-- m signs eps are open before the place k
pub record IsEpsPass (s : SpaceType) (i : ℕ) (w : List ℕ) (k m : ℕ) : Type 0 where
  pub few : m ≤ 2 * k
  pub same : open_eps (factor_acts s i k) m (drop k w) ≡ (whole s i).eps w

pub eps_start : (s : SpaceType) (i : ℕ) (w : List ℕ) → IsEpsPass s i w 0 0
eps_start s i w = record { few = omega arith; same = omega (arith, eps_by_pass (factor_acts s i 0) 0 w, (near_rule s i w).eps) }

pub eps_more : (s : SpaceType) (i : ℕ) (w : List ℕ) (k m e f : ℕ) → AreSigns s i w k e f → e ≤ 2 → IsEpsPass s i w k m → IsEpsPass s i w (k + 1) (m - f + e)
eps_more s i w k m e f signs small p = record {
  few = omega (arith, p.few);
  same = rw (signs.eps, signs.phi) (sym (open_eps_step (seen_action s i) s.factors w k signs.below (omega (arith, length_word s w signs.word, signs.below)) m) ∙ p.same);
}

pub eps_end : (s : SpaceType) (i : ℕ) (w : List ℕ) (k m : ℕ) → length s.factors ≤ k → IsEpsPass s i w k m → m ≡ (whole s i).eps w
eps_end s i w k m all p = rw (none_left s i k all) at p.same

-- m signs phi are left over from the place k on
pub record IsPhiPass (s : SpaceType) (i : ℕ) (w : List ℕ) (k m : ℕ) : Type 0 where
  pub few : m + 2 * k ≤ 2 * length s.factors
  pub same : m ≡ word_phi (factor_acts s i k) (drop k w)

pub phi_more : (s : SpaceType) (i : ℕ) (w : List ℕ) (k m e f : ℕ) → AreSigns s i w k e f → f ≤ 2 → IsPhiPass s i w (k + 1) m → IsPhiPass s i w k (m - e + f)
phi_more s i w k m e f signs small p = record {
  few = omega (arith, p.few);
  same =
      let step = phi_step (seen_action s i) s.factors w k signs.below (omega (arith, length_word s w signs.word, signs.below)) in
      omega (arith, step, p.same, signs.eps, signs.phi);
}

pub phi_end : (s : SpaceType) (i : ℕ) (w : List ℕ) (m : ℕ) → IsPhiPass s i w 0 m → m ≡ (whole s i).phi w
phi_end s i w m p = p.same ∙ sym (near_rule s i w).phi

-- the operator of the closing signs gives zero just where none is left over
whole_ends : (s : SpaceType) (i : ℕ) (w : List ℕ) → IsSpace s → HasIndex s.cartan i → IsWord s w → ((whole s i).lower w ≡ None) ↔ ((whole s i).phi w ≡ 0)
whole_ends s i w space index word = at s.order
  where
    at : (o : Order) → ((as_standard o (action s i)).lower w ≡ None) ↔ ((as_standard o (action s i)).phi w ≡ 0)
    at Standard = (seminormal_word s i w (factors_of_space s space) index word).lower_ends
    at Kashiwara = (seminormal_word s i w (factors_of_space s space) index word).raise_ends

-- m signs eps are open before the place k, and `found` is the place of the last sign phi that is left over there
pub record IsLowerPass (s : SpaceType) (i : ℕ) (w : List ℕ) (k m : ℕ) (found : Option ℕ) : Type 0 where
  pub few : m ≤ 2 * k
  pub same : last_phi (factor_acts s i k) m k found (drop k w) ≡ last_phi (factor_acts s i 0) 0 0 None w

module _ (s : SpaceType) (i : ℕ) (w : List ℕ) (k m e f : ℕ) (found : Option ℕ) (signs : AreSigns s i w k e f) (small : e ≤ 2) (p : IsLowerPass s i w k m found) where
  lower_step : (b : Bool) → nat_lt m f ≡ b → IsLowerPass s i w (k + 1) (m - f + e) (if b then Some k else found)
  lower_step b test = record {
    few = omega (arith, p.few);
    same = rw (sym test, signs.eps, signs.phi) (sym (last_phi_step (seen_action s i) s.factors w k signs.below (omega (arith, length_word s w signs.word, signs.below)) m found) ∙ p.same);
  }

  pub lower_next : IsLowerPass s i w (k + 1) (m - f + e) (if nat_lt m f then Some k else found)
  lower_next = lower_step (nat_lt m f) refl

  pub lower_here : m < f → IsLowerPass s i w (k + 1) (m - f + e) (Some k)
  lower_here more = lower_step true (grind (arith, nat_tests))

  pub lower_not_here : f ≤ m → IsLowerPass s i w (k + 1) (m - f + e) found
  lower_not_here less = lower_step false (grind (arith, nat_tests))

pub lower_end : (s : SpaceType) (i : ℕ) (w : List ℕ) (k m : ℕ) (found : Option ℕ) → IsSpace s → HasIndex s.cartan i → IsWord s w → length s.factors ≤ k → IsLowerPass s i w k m found
    → ClosesAt s.order s i w found
lower_end s i w k m found space index word all p =
    let rule : IsSame (whole s i) (word_action (factor_acts s i 0)) w = near_rule s i w in
    let out : found ≡ last_phi (factor_acts s i 0) 0 0 None w = rw (none_left s i k all) at p.same in
    let found_is : found ≡ (if nat_lt 0 (word_phi (factor_acts s i 0) w) then Some (0 + lower_place (factor_acts s i 0) w) else None) =
    out ∙ last_phi_found (factor_acts s i 0) 0 0 None w in
    rw found_is (elim (nat_lt 0 (word_phi (factor_acts s i 0) w)) as (λ b. nat_lt 0 (word_phi (factor_acts s i 0) w) ≡ b
    → ClosesAt s.order s i w (if b then Some (0 + lower_place (factor_acts s i 0) w) else None)) [
      | true ↦ λ is.
          let place : 0 + lower_place (factor_acts s i 0) w ≡ lower_place (factor_acts s i 0) w = omega arith in
          let at = lower_at (seen_action s i) s.factors w (grind (arith, nat_tests)) in
          rw place (record { below = at.below; acts = rule.lower ∙ at.value })
      | false ↦ λ is.
          let none : (whole s i).phi w ≡ 0 = rule.phi ∙ grind (arith, nat_tests) in
          (whole_ends s i w space index word).1 none
    ] refl)

-- m signs phi are left over from the place k on, and `found` is the place of the first sign eps that is left over there
pub record IsRaisePass (s : SpaceType) (i : ℕ) (w : List ℕ) (k m : ℕ) (found : Option ℕ) : Type 0 where
  pub phi : IsPhiPass s i w k m
  pub same : found ≡ first_eps_from (seen_action s i) s.factors w k

module _ (s : SpaceType) (i : ℕ) (w : List ℕ) (k m e f : ℕ) (found : Option ℕ) (signs : AreSigns s i w k e f) (small : f ≤ 2) (p : IsRaisePass s i w (k + 1) m found) where
  raise_step : (b : Bool) → nat_lt m e ≡ b → IsRaisePass s i w k (m - e + f) (if b then Some k else found)
  raise_step b test = record {
    phi = phi_more s i w k m e f signs small p.phi;
    same =
        let step = first_eps_step (seen_action s i) s.factors w k signs.below (omega (arith, length_word s w signs.word, signs.below)) in
        rw (sym test, signs.eps, p.phi.same, p.same) (sym step);
  }

  pub raise_here : m < e → IsRaisePass s i w k (m - e + f) (Some k)
  raise_here more = raise_step true (grind (arith, nat_tests))

  pub raise_not_here : e ≤ m → IsRaisePass s i w k (m - e + f) found
  raise_not_here less = raise_step false (grind (arith, nat_tests))

pub raise_placed : (s : SpaceType) (i : ℕ) (w : List ℕ) (found : Option ℕ) → found ≡ first_eps_from (seen_action s i) s.factors w 0 → OpensAt s.order s i w found
raise_placed s i w found is =
    rw (is ∙ unshifted (first_eps (factor_acts s i 0) w))
    (placed (first_eps (factor_acts s i 0) w) (raise_at (seen_action s i) s.factors w))
  where
    unshifted : (o : Option ℕ) → option_map (λ p. 0 + p) o ≡ o
    unshifted None = refl
    unshifted (Some p) = ap Some (omega arith)

    placed : (o : Option ℕ) → RaisesAt (seen_action s i) s.factors w o (word_raise (factor_acts s i 0) w) → OpensAt s.order s i w o
    placed None h = (near_rule s i w).raise ∙ h
    placed (Some p) h = record { below = h.below; acts = (near_rule s i w).raise ∙ h.value }

pub raise_end : (s : SpaceType) (i : ℕ) (w : List ℕ) (m : ℕ) (found : Option ℕ) → IsRaisePass s i w 0 m found → OpensAt s.order s i w found
raise_end s i w m found p = raise_placed s i w found p.same

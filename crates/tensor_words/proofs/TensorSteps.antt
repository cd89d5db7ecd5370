-- The tensor product rule, one factor at a time, as the standard order sees the factors.
use Rattle.std.proofs.Common.{◌≡◌, ◌∙◌, sym, ap, refl, ℕ, ◌+◌, ◌-◌, ◌≤◌, ◌<◌, nat_le, nat_lt, true, false, List, ◌∷◌, ◌++◌, length, take, drop, get_or, set, append_assoc, Option, Some, None, arith}
use Rattle.std.specs.Option.{option_map}
use Rattle.std.proofs.lemmas.Grind.{drop-set_at}
use Rattle.std.proofs.lemmas.List.{drop_more, take_more, take-set, take-append-drop, get_or-map, length-map}
use Rattle.std.proofs.lemmas.Bool.{lt-ltb, le-ltb, le-leb, lt-leb}
use Rattle.crystal_cartan.specs.Crystals.{Action}
use Rattle.tensor_words.specs.declared.spaces.Factor.TheVariants.{Vector}
use Rattle.tensor_words.specs.Spaces.{SpaceType, factor_at}
use Rattle.tensor_words.specs.Codes.{IsWord}
use Rattle.tensor_words.specs.TensorRule.{seen_action, seen_actions, word_phi, word_eps, word_lower, word_raise}
use Rattle.tensor_words.proofs.SpaceWords.{length_word}

-- how the index i acts on the factor at the place k, as the standard order sees it
abbrev pub action_at : SpaceType → ℕ → ℕ → Action ℕ
action_at s i k = seen_action s i (factor_at s k)

actions_more : (s : SpaceType) (i k : ℕ) → k < length s.factors → drop k (seen_actions s i) ≡ action_at s i k ∷ drop (k + 1) (seen_actions s i)
actions_more s i k lt =
    let within : k < length (seen_actions s i) = omega (arith, length-map s.factors (seen_action s i)) in
    drop_more (seen_actions s i) k (seen_action s i Vector) within
    ∙ ap (λ act. act ∷ drop (k + 1) (seen_actions s i)) (get_or-map (seen_action s i) s.factors k Vector (seen_action s i Vector) lt)

-- phi, eps and the operators on the factors from the place k on
abbrev pub phi_after : SpaceType → ℕ → ℕ → List ℕ → ℕ
phi_after s i k w = word_phi (drop k (seen_actions s i)) (drop k w)

abbrev pub eps_after : SpaceType → ℕ → ℕ → List ℕ → ℕ
eps_after s i k w = word_eps (drop k (seen_actions s i)) (drop k w)

abbrev pub lower_after : SpaceType → ℕ → ℕ → List ℕ → Option (List ℕ)
lower_after s i k w = option_map (λ z. take k w ++ z) (word_lower (drop k (seen_actions s i)) (drop k w))

abbrev pub raise_after : SpaceType → ℕ → ℕ → List ℕ → Option (List ℕ)
raise_after s i k w = option_map (λ z. take k w ++ z) (word_raise (drop k (seen_actions s i)) (drop k w))

-- a digit is changed between the ones before and the ones after
set_between : (w : List ℕ) (k d : ℕ) → k < length w → take k w ++ d ∷ drop (k + 1) w ≡ set w k d
set_between w k d lt =
    let before : take k (set w k d) ≡ take k w = take-set w k d in
    let after : drop k (set w k d) ≡ d ∷ drop (k + 1) w = drop-set_at w k k d refl lt in
    rw (← before, ← after) (take-append-drop k (set w k d))

changed_here : (w : List ℕ) (k : ℕ) (o : Option ℕ) → k < length w →
    option_map (λ z. take k w ++ z) (option_map (λ d. d ∷ drop (k + 1) w) o) ≡ option_map (λ d. set w k d) o
changed_here w k None lt = refl
changed_here w k (Some d) lt = ap (λ z. Some z) (set_between w k d lt)

changed_after : (w : List ℕ) (k : ℕ) (o : Option (List ℕ)) → k < length w →
    option_map (λ z. take k w ++ z) (option_map (λ z. get_or w k 0 ∷ z) o) ≡ option_map (λ z. take (k + 1) w ++ z) o
changed_after w k None lt = refl
changed_after w k (Some z) lt = rw (take_more w k 0 lt, append_assoc) refl

-- the step of each from the factors behind the place k to those from k on
module _ (s : SpaceType) (i k : ℕ) (w : List ℕ) (h : IsWord s w) (lt : k < length s.factors) where
  inside : k < length w
  inside = omega (arith, length_word s w h)

  pub phi_step : phi_after s i k w ≡ (action_at s i k).phi (get_or w k 0) + (phi_after s i (k + 1) w - (action_at s i k).eps (get_or w k 0))
  phi_step = rw (actions_more s i k lt, drop_more w k 0 inside) refl

  pub eps_step : eps_after s i k w ≡ eps_after s i (k + 1) w + ((action_at s i k).eps (get_or w k 0) - phi_after s i (k + 1) w)
  eps_step = rw (actions_more s i k lt, drop_more w k 0 inside) refl

  lower_here : phi_after s i (k + 1) w ≤ (action_at s i k).eps (get_or w k 0) → lower_after s i k w ≡ option_map (λ d. set w k d) ((action_at s i k).lower (get_or w k 0))
  lower_here le =
      let test : nat_le (phi_after s i (k + 1) w) ((action_at s i k).eps (get_or w k 0)) ≡ true = le-leb _ _ le in
      rw (actions_more s i k lt, drop_more w k 0 inside) (rw test (changed_here w k ((action_at s i k).lower (get_or w k 0)) inside))

  lower_later : (action_at s i k).eps (get_or w k 0) < phi_after s i (k + 1) w → lower_after s i k w ≡ lower_after s i (k + 1) w
  lower_later more =
      let test : nat_le (phi_after s i (k + 1) w) ((action_at s i k).eps (get_or w k 0)) ≡ false = lt-leb _ _ more in
      rw (actions_more s i k lt, drop_more w k 0 inside) (rw test (changed_after w k (word_lower (drop (k + 1) (seen_actions s i)) (drop (k + 1) w)) inside))

  raise_here : phi_after s i (k + 1) w < (action_at s i k).eps (get_or w k 0) → raise_after s i k w ≡ option_map (λ d. set w k d) ((action_at s i k).raise (get_or w k 0))
  raise_here less =
      let test : nat_lt (phi_after s i (k + 1) w) ((action_at s i k).eps (get_or w k 0)) ≡ true = lt-ltb _ _ less in
      rw (actions_more s i k lt, drop_more w k 0 inside) (rw test (changed_here w k ((action_at s i k).raise (get_or w k 0)) inside))

  raise_later : (action_at s i k).eps (get_or w k 0) ≤ phi_after s i (k + 1) w → raise_after s i k w ≡ raise_after s i (k + 1) w
  raise_later more =
      let test : nat_lt (phi_after s i (k + 1) w) ((action_at s i k).eps (get_or w k 0)) ≡ false = le-ltb _ _ more in
      rw (actions_more s i k lt, drop_more w k 0 inside) (rw test (changed_after w k (word_raise (drop (k + 1) (seen_actions s i)) (drop (k + 1) w)) inside))

-- what is read at the place k: the digit there, its eps, and phi of the factors behind it
pub record IsAt (s : SpaceType) (i k : ℕ) (w : List ℕ) (d phi eps : ℕ) : Type 0 where
  pub word : IsWord s w
  pub place : k < length s.factors
  pub digit : d ≡ get_or w k 0
  pub rest : phi ≡ phi_after s i (k + 1) w
  pub own : eps ≡ (action_at s i k).eps d

pub at_place : (s : SpaceType) (i k : ℕ) (w : List ℕ) {d phi eps : ℕ} → IsWord s w → k < length s.factors → d ≡ get_or w k 0
    → phi ≡ phi_after s i (k + 1) w → eps ≡ (action_at s i k).eps d → IsAt s i k w d phi eps
at_place s i k w word place digit rest own = record { word = word; place = place; digit = digit; rest = rest; own = own }

-- what the operators make of it: zero, the word with its digit at k changed, or what they make of the factors behind it
module _ {s : SpaceType} {i k : ℕ} {w : List ℕ} {d phi eps : ℕ} (a : IsAt s i k w d phi eps) where
  rest : phi ≡ phi_after s i (k + 1) w
  rest = a.rest

  own : eps ≡ (action_at s i k).eps (get_or w k 0)
  own = rw (← a.digit) a.own

  lower_kept : phi ≤ eps → lower_after s i k w ≡ option_map (λ e. set w k e) ((action_at s i k).lower d)
  lower_kept le = rw a.digit (lower_here s i k w a.word a.place (omega (arith, own, rest)))

  raise_kept : phi < eps → raise_after s i k w ≡ option_map (λ e. set w k e) ((action_at s i k).raise d)
  raise_kept less = rw a.digit (raise_here s i k w a.word a.place (omega (arith, own, rest)))

  pub lower_zero : {o : Option (List ℕ)} → phi ≤ eps → None ≡ (action_at s i k).lower d → o ≡ None → o ≡ lower_after s i k w
  lower_zero le none is = is ∙ sym (lower_kept le ∙ ap (option_map (λ e. set w k e)) (sym none))

  pub lower_made : {u : List ℕ} {e : ℕ} → phi ≤ eps → Some e ≡ (action_at s i k).lower d → u ≡ set w k e → Some u ≡ lower_after s i k w
  lower_made le some is = ap (λ z. Some z) is ∙ sym (lower_kept le ∙ ap (option_map (λ x. set w k x)) (sym some))

  pub lower_passed : {o : Option (List ℕ)} → eps < phi → o ≡ lower_after s i (k + 1) w → o ≡ lower_after s i k w
  lower_passed more is = is ∙ sym (lower_later s i k w a.word a.place (omega (arith, own, rest)))

  pub raise_zero : {o : Option (List ℕ)} → phi < eps → None ≡ (action_at s i k).raise d → o ≡ None → o ≡ raise_after s i k w
  raise_zero less none is = is ∙ sym (raise_kept less ∙ ap (option_map (λ e. set w k e)) (sym none))

  pub raise_made : {u : List ℕ} {e : ℕ} → phi < eps → Some e ≡ (action_at s i k).raise d → u ≡ set w k e → Some u ≡ raise_after s i k w
  raise_made less some is = ap (λ z. Some z) is ∙ sym (raise_kept less ∙ ap (option_map (λ x. set w k x)) (sym some))

  pub raise_passed : {o : Option (List ℕ)} → eps ≤ phi → o ≡ raise_after s i (k + 1) w → o ≡ raise_after s i k w
  raise_passed more is = is ∙ sym (raise_later s i k w a.word a.place (omega (arith, own, rest)))

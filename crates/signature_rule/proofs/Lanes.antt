-- One entry of the passes over all indices at once.
use Rattle.std.proofs.Common.{◌≡◌, ◌∙◌, sym, ap, subst, refl, ℕ, ◌+◌, ◌-◌, ◌*◌, ◌≤◌, ◌<◌, ◌==◌, nat_le, nat_lt, if◌then◌else◌, Bool, true, false, List, length, drop, replicate, get_or, Option, Some, None, inl, inr, arith}
use Rattle.std.proofs.lemmas.Bool.{cases_lt}
use Rattle.std.proofs.lemmas.Bool.Decides.{nat_tests}
use Rattle.std.proofs.lemmas.List.{get_or_past, get_or-replicate}
use Rattle.crystal_cartan.specs.Types.{HasIndex}
use Rattle.tensor_words.specs.declared.spaces.Order.{Order}
use Rattle.tensor_words.specs.declared.spaces.Order.TheVariants.{Standard, Kashiwara}
use Rattle.tensor_words.specs.declared.tables.Row.{Row}
use Rattle.tensor_words.specs.Spaces.{SpaceType, IsSpace, base_action, factor_at}
use Rattle.tensor_words.specs.Codes.{IsWord}
use Rattle.tensor_words.specs.Steps.{IsRow}
use Rattle.tensor_words.specs.TensorRule.{word_phi, action, as_standard}
use Rattle.tensor_words.proofs.SpaceWords.{length_word}
use Rattle.tensor_words.specs.TensorRule.{seen_action}
use Rattle.tensor_words.proofs.Turned.{near_rule}
use Rattle.signature_rule.specs.Passes.{AreSigns, ClosesAt, OpensAt, bottom}
use Rattle.signature_rule.specs.Places.{entry_place, bottom_entry, closing_in, opening_in}
use Rattle.signature_rule.proofs.Signs.{phi_step}
use Rattle.signature_rule.proofs.PassSteps.{IsEpsPass, eps_more, IsLowerPass, lower_next, factor_acts, none_left, whole}
use Rattle.signature_rule.proofs.BothPasses.{IsBottomPass, bottom_next}

-- p closing signs are left over before the place k, and m opening signs are open there
pub record IsClosingPass (s : SpaceType) (i : ℕ) (w : List ℕ) (k m p : ℕ) : Type 0 where
  pub same : p + (word_phi (factor_acts s i k) (drop k w) - m) ≡ (whole s i).phi w

pub closing_start : (s : SpaceType) (i : ℕ) (w : List ℕ) → IsClosingPass s i w 0 0 0
closing_start s i w = record { same = omega (arith, (near_rule s i w).phi) }

pub closing_more : (s : SpaceType) (i : ℕ) (w : List ℕ) (k m p e f : ℕ) → AreSigns s i w k e f → IsClosingPass s i w k m p → IsClosingPass s i w (k + 1) (m - f + e) (p + (f - m))
closing_more s i w k m p e f signs before = record {
  same =
      let step = phi_step (seen_action s i) s.factors w k signs.below (omega (arith, length_word s w signs.word, signs.below)) in
      omega (arith, step, before.same, signs.eps, signs.phi);
}

pub closing_end : (s : SpaceType) (i : ℕ) (w : List ℕ) (k m p : ℕ) → length s.factors ≤ k → IsClosingPass s i w k m p → p ≡ (whole s i).phi w
closing_end s i w k m p all before =
    let done : p + (0 - m) ≡ (whole s i).phi w = rw (none_left s i k all) at before.same in
    omega arith

-- the entries of a row are the signs of its element
pub row_signs :
    (s : SpaceType) (i : ℕ) (w : List ℕ) (k d : ℕ) (r : Row) → IsWord s w → HasIndex s.cartan i → k < length s.factors → d ≡ get_or w k 0 → IsRow s k d r
    → AreSigns s i w k (get_or (opening_in s.order r) (i - 1) 0) (get_or (closing_in s.order r) (i - 1) 0)
row_signs s i w k d r word index below digit row = record { word = word; below = below; eps = opening s.order; phi = closing s.order }
  where
    eps_is : get_or r.eps (i - 1) 0 ≡ (base_action s.cartan i (factor_at s k)).eps (get_or w k 0)
    eps_is = rw (sym digit) (row.eps i index)

    phi_is : get_or r.phi (i - 1) 0 ≡ (base_action s.cartan i (factor_at s k)).phi (get_or w k 0)
    phi_is = rw (sym digit) (row.phi i index)

    opening : (o : Order) → get_or (opening_in o r) (i - 1) 0 ≡ (as_standard o (base_action s.cartan i (factor_at s k))).eps (get_or w k 0)
    opening Standard = eps_is
    opening Kashiwara = phi_is

    closing : (o : Order) → get_or (closing_in o r) (i - 1) 0 ≡ (as_standard o (base_action s.cartan i (factor_at s k))).phi (get_or w k 0)
    closing Standard = phi_is
    closing Kashiwara = eps_is

pub few_opening : (s : SpaceType) (o : Order) (k d : ℕ) (r : Row) → IsRow s k d r → (j : ℕ) → get_or (opening_in o r) j 0 ≤ 2
few_opening s Standard k d r row j = row.few_eps j
few_opening s Kashiwara k d r row j = row.few_phi j

pub few_closing : (s : SpaceType) (o : Order) (k d : ℕ) (r : Row) → IsRow s k d r → (j : ℕ) → get_or (closing_in o r) j 0 ≤ 2
few_closing s Standard k d r row j = row.few_phi j
few_closing s Kashiwara k d r row j = row.few_eps j

-- an entry names the place of the factor
placed : (k : ℕ) → k < 255 → entry_place k ≡ Some k
placed k lt = let test : (k == 255) ≡ false = grind (arith, nat_tests) in rw test refl

placed_if : (b : Bool) (k found : ℕ) → k < 255 → entry_place (if b then k else found) ≡ (if b then Some k else entry_place found)
placed_if true k found lt = placed k lt
placed_if false k found lt = refl

placed_bottom : (m f e k found : ℕ) → k < 255 → entry_place (bottom_entry m f e k found) ≡ bottom m f e k (entry_place found)
placed_bottom m f e k found lt = first (nat_le m f) (nat_lt 0 e)
  where
    first : (b c : Bool) → entry_place (if b then (if c then k else 255) else found) ≡ (if b then (if c then Some k else None) else entry_place found)
    first true true = placed k lt
    first true false = refl
    first false c = refl

-- one factor more, at one entry
pub last_lane :
    (s : SpaceType) (i : ℕ) (w : List ℕ) (k m e f z y found : ℕ) → AreSigns s i w k e f → e ≤ 2 → k < 255 → z ≡ m - f + e → y ≡ (if nat_lt m f then k else found)
    → IsLowerPass s i w k m (entry_place found) → IsLowerPass s i w (k + 1) z (entry_place y)
last_lane s i w k m e f z y found signs few lt open_is found_is before =
    rw (open_is, found_is, placed_if (nat_lt m f) k found lt) (lower_next s i w k m e f (entry_place found) signs few before)

pub first_lane :
    (s : SpaceType) (i : ℕ) (w : List ℕ) (k m e f z y found : ℕ) → AreSigns s i w k e f → k < 255 → z ≡ m - f + e → y ≡ bottom_entry m f e k found
    → IsBottomPass s i w k m (entry_place found) → IsBottomPass s i w (k + 1) z (entry_place y)
first_lane s i w k m e f z y found signs lt open_is found_is before =
    rw (open_is, found_is, placed_bottom m f e k found lt) (bottom_next s i w k m e f (entry_place found) signs before)

-- no entry grows by more than 2 a factor
pub few_more :
    (xs ys fs es : List ℕ) (k : ℕ) → length ys ≡ 8 → ((j : ℕ) → j < 8 → get_or ys j 0 ≡ get_or xs j 0 - get_or fs j 0 + get_or es j 0)
    → ((j : ℕ) → get_or es j 0 ≤ 2) → ((j : ℕ) → get_or xs j 0 ≤ 2 * k) → (j : ℕ) → get_or ys j 0 ≤ 2 * (k + 1)
few_more xs ys fs es k size entries few before j =
    elim (cases_lt j 8) [
      | inl inside ↦ omega (arith, entries j inside, few j, before j)
      | inr beyond ↦ omega (arith, get_or_past ys j 0 (omega arith))
    ]

pub few_left :
    (xs ys fs ms : List ℕ) (k : ℕ) → length ys ≡ 8 → ((j : ℕ) → j < 8 → get_or ys j 0 ≡ get_or xs j 0 + (get_or fs j 0 - get_or ms j 0))
    → ((j : ℕ) → get_or fs j 0 ≤ 2) → ((j : ℕ) → get_or xs j 0 ≤ 2 * k) → (j : ℕ) → get_or ys j 0 ≤ 2 * (k + 1)
few_left xs ys fs ms k size entries few before j =
    elim (cases_lt j 8) [
      | inl inside ↦ omega (arith, entries j inside, few j, before j)
      | inr beyond ↦ omega (arith, get_or_past ys j 0 (omega arith))
    ]

-- the signs that the digit at the place k writes at the entries of all indices
pub record AreSignLanes (s : SpaceType) (w : List ℕ) (k : ℕ) (opening closing : List ℕ) : Type 0 where
  pub signs : (i : ℕ) → HasIndex s.cartan i → AreSigns s i w k (get_or opening (i - 1) 0) (get_or closing (i - 1) 0)
  pub few_opening : (j : ℕ) → get_or opening j 0 ≤ 2
  pub few_closing : (j : ℕ) → get_or closing j 0 ≤ 2

pub sign_lanes :
    (s : SpaceType) (w : List ℕ) (k d : ℕ) (r : Row) (o : Order) (opening closing : List ℕ) → IsWord s w → k < length s.factors → d ≡ get_or w k 0 → IsRow s k d r
    → o ≡ s.order → opening ≡ opening_in o r → closing ≡ closing_in o r → AreSignLanes s w k opening closing
sign_lanes s w k d r o opening closing word below digit row order opening_is closing_is =
    rw (opening_is, closing_is, order) (record {
      signs = λ i index. row_signs s i w k d r word index below digit row;
      few_opening = few_opening s s.order k d r row;
      few_closing = few_closing s s.order k d r row;
    })

-- what `open_behind` and `left_behind` give
abbrev pub AreOpenBehind : List ℕ → List ℕ → List ℕ → List ℕ → Type 0
AreOpenBehind unclosed closing opening behind = (j : ℕ) → j < 8 → get_or behind j 0 ≡ get_or unclosed j 0 - get_or closing j 0 + get_or opening j 0

entry_inside : (s : SpaceType) (i : ℕ) → IsSpace s → HasIndex s.cartan i → i - 1 < 8
entry_inside s i space index = omega (arith, space.cartan.high, index.high, index.low)

pub last_lanes :
    (s : SpaceType) (w : List ℕ) (k : ℕ) (opening closing unclosed behind found next : List ℕ) → IsSpace s → k < length s.factors → AreSignLanes s w k opening closing
    → AreOpenBehind unclosed closing opening behind → ((j : ℕ) → j < 8 → get_or next j 0 ≡ (if nat_lt (get_or unclosed j 0) (get_or closing j 0) then k else get_or found j 0))
    → ((i : ℕ) → HasIndex s.cartan i → IsLowerPass s i w k (get_or unclosed (i - 1) 0) (entry_place (get_or found (i - 1) 0)))
    → (i : ℕ) → HasIndex s.cartan i → IsLowerPass s i w (k + 1) (get_or behind (i - 1) 0) (entry_place (get_or next (i - 1) 0))
last_lanes s w k opening closing unclosed behind found next space below signs opens founds before i index =
    let inside : i - 1 < 8 = entry_inside s i space index in
    last_lane s i w k (get_or unclosed (i - 1) 0) (get_or opening (i - 1) 0) (get_or closing (i - 1) 0) (get_or behind (i - 1) 0) (get_or next (i - 1) 0) (get_or found (i - 1) 0)
    (signs.signs i index) (signs.few_opening (i - 1)) (omega (arith, space.few)) (opens (i - 1) inside) (founds (i - 1) inside) (before i index)

pub first_lanes :
    (s : SpaceType) (w : List ℕ) (k : ℕ) (opening closing unclosed behind found next : List ℕ) → IsSpace s → k < length s.factors → AreSignLanes s w k opening closing
    → AreOpenBehind unclosed closing opening behind
    → ((j : ℕ) → j < 8 → get_or next j 0 ≡ bottom_entry (get_or unclosed j 0) (get_or closing j 0) (get_or opening j 0) k (get_or found j 0))
    → ((i : ℕ) → HasIndex s.cartan i → IsBottomPass s i w k (get_or unclosed (i - 1) 0) (entry_place (get_or found (i - 1) 0)))
    → (i : ℕ) → HasIndex s.cartan i → IsBottomPass s i w (k + 1) (get_or behind (i - 1) 0) (entry_place (get_or next (i - 1) 0))
first_lanes s w k opening closing unclosed behind found next space below signs opens founds before i index =
    let inside : i - 1 < 8 = entry_inside s i space index in
    first_lane s i w k (get_or unclosed (i - 1) 0) (get_or opening (i - 1) 0) (get_or closing (i - 1) 0) (get_or behind (i - 1) 0) (get_or next (i - 1) 0) (get_or found (i - 1) 0)
    (signs.signs i index) (omega (arith, space.few)) (opens (i - 1) inside) (founds (i - 1) inside) (before i index)

pub eps_lanes :
    (s : SpaceType) (w : List ℕ) (k : ℕ) (opening closing unclosed behind : List ℕ) → IsSpace s → AreSignLanes s w k opening closing → AreOpenBehind unclosed closing opening behind
    → ((i : ℕ) → HasIndex s.cartan i → IsEpsPass s i w k (get_or unclosed (i - 1) 0)) → (i : ℕ) → HasIndex s.cartan i → IsEpsPass s i w (k + 1) (get_or behind (i - 1) 0)
eps_lanes s w k opening closing unclosed behind space signs opens before i index =
    rw (opens (i - 1) (entry_inside s i space index))
    (eps_more s i w k (get_or unclosed (i - 1) 0) (get_or opening (i - 1) 0) (get_or closing (i - 1) 0) (signs.signs i index) (signs.few_opening (i - 1)) (before i index))

pub closing_lanes :
    (s : SpaceType) (w : List ℕ) (k : ℕ) (opening closing unclosed behind left next : List ℕ) → IsSpace s → AreSignLanes s w k opening closing → AreOpenBehind unclosed closing opening behind
    → ((j : ℕ) → j < 8 → get_or next j 0 ≡ get_or left j 0 + (get_or closing j 0 - get_or unclosed j 0))
    → ((i : ℕ) → HasIndex s.cartan i → IsClosingPass s i w k (get_or unclosed (i - 1) 0) (get_or left (i - 1) 0))
    → (i : ℕ) → HasIndex s.cartan i → IsClosingPass s i w (k + 1) (get_or behind (i - 1) 0) (get_or next (i - 1) 0)
closing_lanes s w k opening closing unclosed behind left next space signs opens lefts before i index =
    let inside : i - 1 < 8 = entry_inside s i space index in
    rw (opens (i - 1) inside, lefts (i - 1) inside)
    (closing_more s i w k (get_or unclosed (i - 1) 0) (get_or left (i - 1) 0) (get_or opening (i - 1) 0) (get_or closing (i - 1) 0) (signs.signs i index) (before i index))

-- the operator of the closing signs, and that of the opening signs, in this order
pub closes_in : (s : SpaceType) (o : Order) (i : ℕ) (w : List ℕ) (found : Option ℕ) → s.order ≡ o → ClosesAt s.order s i w found → ClosesAt o s i w found
closes_in s o i w found is h = subst (λ (p : Order). ClosesAt p s i w found) is h

pub opens_in : (s : SpaceType) (o : Order) (i : ℕ) (w : List ℕ) (found : Option ℕ) → s.order ≡ o → OpensAt s.order s i w found → OpensAt o s i w found
opens_in s o i w found is h = subst (λ (p : Order). OpensAt p s i w found) is h

pub eps_in : (s : SpaceType) (o : Order) (i : ℕ) (w : List ℕ) (n : ℕ) → s.order ≡ o → n ≡ (whole s i).eps w → n ≡ (as_standard o (action s i)).eps w
eps_in s o i w n is h = h ∙ ap (λ (p : Order). (as_standard p (action s i)).eps w) is

pub phi_in : (s : SpaceType) (o : Order) (i : ℕ) (w : List ℕ) (n : ℕ) → s.order ≡ o → n ≡ (whole s i).phi w → n ≡ (as_standard o (action s i)).phi w
phi_in s o i w n is h = h ∙ ap (λ (p : Order). (as_standard p (action s i)).phi w) is

abbrev pub no_signs : List ℕ
no_signs = replicate 8 0

pub zero_entry : (j : ℕ) → get_or no_signs j 0 ≡ 0
zero_entry j =
    elim (cases_lt j 8) [
      | inl inside ↦ get_or-replicate {A = ℕ} 8 j 0 0 inside
      | inr beyond ↦ get_or_past no_signs j 0 beyond
    ]

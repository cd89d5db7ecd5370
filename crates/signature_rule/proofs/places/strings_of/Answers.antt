use Rattle.std.proofs.Common.{◌≡◌, refl, ◌<◌, ◌≤◌, ◌-◌, ℕ, List, length, ap, sym, ◌∙◌, arith, get_or}
use Rattle.tensor_words.specs.declared.spaces.Order.TheVariants.{Standard, Kashiwara}
use Rattle.tensor_words.specs.Spaces.{SpaceType}
use Rattle.signature_rule.proofs.PassSteps.{eps_start, eps_end}
use Rattle.signature_rule.proofs.Lanes.{AreSignLanes, sign_lanes, zero_entry, closing_start, few_more, few_left, eps_lanes, closing_lanes, closing_end, eps_in, phi_in}
use Rattle.signature_rule.proofs.places.strings_of.Goals as goal

pub factors-preserved : goal.factors-preserved
factors-preserved c =
    let s : SpaceType = c.args.steps.now in
    let w : List ℕ = c.args.word.now in
    let k : ℕ = c.factors.place in
    let order : c.order-order.result ≡ s.order = c.order-order.ensures ∙ ap (λ (t : SpaceType). t.order) c.space-space.ensures.value in
    let below : k < length s.factors = omega (arith, ap (λ (t : SpaceType). length t.factors) c.space-space.ensures.value) in
    let signs : AreSignLanes s w k c.opening_signs.result c.closing_signs-closing.result =
    sign_lanes s w k c.digit_in.result c.row-row.result.now c.order-order.result c.opening_signs.result c.closing_signs-closing.result
    c.requires below c.digit_in.ensures.digit c.row-row.ensures order c.opening_signs.ensures c.closing_signs-closing.ensures in
    record {
      few_open =
          few_more c.factors.open c.open_behind-open.result c.closing_signs-closing.result c.opening_signs.result k
          c.open_behind-open.ensures.size c.open_behind-open.ensures.entries signs.few_opening c.factors.invariant.few_open;
      few_left =
          few_left c.factors.left_over c.left_behind-left_over.result c.closing_signs-closing.result c.factors.open k
          c.left_behind-left_over.ensures.size c.left_behind-left_over.ensures.entries signs.few_closing c.factors.invariant.few_left;
      open_size = c.open_behind-open.ensures.size;
      left_size = c.left_behind-left_over.ensures.size;
      opened =
          eps_lanes s w k c.opening_signs.result c.closing_signs-closing.result c.factors.open c.open_behind-open.result
          c.space-space.ensures.space signs c.open_behind-open.ensures.entries c.factors.invariant.opened;
      left =
          closing_lanes s w k c.opening_signs.result c.closing_signs-closing.result c.factors.open c.open_behind-open.result c.factors.left_over c.left_behind-left_over.result
          c.space-space.ensures.space signs c.open_behind-open.ensures.entries c.left_behind-left_over.ensures.entries c.factors.invariant.left;
    }

pub returns-in-Standard : goal.returns-in-Standard
returns-in-Standard c =
    let s : SpaceType = c.args.steps.now in
    let order : s.order ≡ Standard = sym (c.order-order.ensures ∙ ap (λ (t : SpaceType). t.order) c.space-space.ensures.value) ∙ c.in-Standard.is in
    let all : length s.factors ≤ c.factors.place = omega (arith, ap (λ (t : SpaceType). length t.factors) c.space-space.ensures.value) in
    record {
      eps = λ i index.
          eps_in s Standard i c.args.word.now (get_or c.factors.open (i - 1) 0) order
          (eps_end s i c.args.word.now c.factors.place (get_or c.factors.open (i - 1) 0) all (c.factors.invariant.opened i index));
      phi = λ i index.
          phi_in s Standard i c.args.word.now (get_or c.factors.left_over (i - 1) 0) order
          (closing_end s i c.args.word.now c.factors.place (get_or c.factors.open (i - 1) 0) (get_or c.factors.left_over (i - 1) 0) all (c.factors.invariant.left i index));
    }

pub returns-in-Kashiwara : goal.returns-in-Kashiwara
returns-in-Kashiwara c =
    let s : SpaceType = c.args.steps.now in
    let order : s.order ≡ Kashiwara = sym (c.order-order.ensures ∙ ap (λ (t : SpaceType). t.order) c.space-space.ensures.value) ∙ c.in-Kashiwara.is in
    let all : length s.factors ≤ c.factors.place = omega (arith, ap (λ (t : SpaceType). length t.factors) c.space-space.ensures.value) in
    record {
      phi = λ i index.
          eps_in s Kashiwara i c.args.word.now (get_or c.factors.open (i - 1) 0) order
          (eps_end s i c.args.word.now c.factors.place (get_or c.factors.open (i - 1) 0) all (c.factors.invariant.opened i index));
      eps = λ i index.
          phi_in s Kashiwara i c.args.word.now (get_or c.factors.left_over (i - 1) 0) order
          (closing_end s i c.args.word.now c.factors.place (get_or c.factors.open (i - 1) 0) (get_or c.factors.left_over (i - 1) 0) all (c.factors.invariant.left i index));
    }

pub factors-init : goal.factors-init
factors-init c = record {
  few_open = λ j. omega (arith, zero_entry j);
  few_left = λ j. omega (arith, zero_entry j);
  open_size = refl;
  left_size = refl;
  opened = λ i index. rw (zero_entry (i - 1)) (eps_start c.args.steps.now i c.args.word.now);
  left = λ i index. rw (zero_entry (i - 1)) (closing_start c.args.steps.now i c.args.word.now);
}

use Rattle.std.proofs.Common.{◌≡◌, ◌<◌, ◌≤◌, ◌-◌, ℕ, List, length, ap, sym, ◌∙◌, arith, get_or}
use Rattle.tensor_words.specs.declared.spaces.Order.TheVariants.{Standard, Kashiwara}
use Rattle.tensor_words.specs.Spaces.{SpaceType}
use Rattle.signature_rule.specs.Places.{entry_place}
use Rattle.signature_rule.proofs.PassSteps.{lower_end}
use Rattle.signature_rule.proofs.BothPasses.{bottom_end}
use Rattle.signature_rule.proofs.Lanes.{AreSignLanes, sign_lanes, few_more, last_lanes, first_lanes, closes_in, opens_in}
use Rattle.signature_rule.proofs.places.places_of.Goals as goal

pub factors-preserved : goal.factors-preserved
factors-preserved c =
    let s : SpaceType = c.args.steps.now in
    let w : List ℕ = c.args.word.now in
    let k : ℕ = c.factors.place in
    let order : c.order-order.result ≡ s.order = c.order-order.ensures ∙ ap (λ (t : SpaceType). t.order) c.space-space.ensures.value in
    let below : k < length s.factors = omega (arith, ap (λ (t : SpaceType). length t.factors) c.space-space.ensures.value) in
    let signs : AreSignLanes s w k c.opening_signs-opening.result c.closing_signs-closing.result =
    sign_lanes s w k c.digit_in.result c.row-row.result.now c.order-order.result c.opening_signs-opening.result c.closing_signs-closing.result
    c.requires below c.digit_in.ensures.digit c.row-row.ensures order c.opening_signs-opening.ensures c.closing_signs-closing.ensures in
    record {
      few =
          few_more c.factors.open c.open_behind-open.result c.closing_signs-closing.result c.opening_signs-opening.result k
          c.open_behind-open.ensures.size c.open_behind-open.ensures.entries signs.few_opening c.factors.invariant.few;
      size = c.open_behind-open.ensures.size;
      last =
          last_lanes s w k c.opening_signs-opening.result c.closing_signs-closing.result c.factors.open c.open_behind-open.result c.factors.last_closing c.last_left_over-last_closing.result
          c.space-space.ensures.space below signs c.open_behind-open.ensures.entries c.last_left_over-last_closing.ensures.entries c.factors.invariant.last;
      first =
          first_lanes s w k c.opening_signs-opening.result c.closing_signs-closing.result c.factors.open c.open_behind-open.result c.factors.first_opening c.first_open-first_opening.result
          c.space-space.ensures.space below signs c.open_behind-open.ensures.entries c.first_open-first_opening.ensures.entries c.factors.invariant.first;
    }

pub returns-in-Standard : goal.returns-in-Standard
returns-in-Standard c =
    let s : SpaceType = c.args.steps.now in
    let order : s.order ≡ Standard = sym (c.order-order.ensures ∙ ap (λ (t : SpaceType). t.order) c.space-space.ensures.value) ∙ c.in-Standard.is in
    let all : length s.factors ≤ c.factors.place = omega (arith, ap (λ (t : SpaceType). length t.factors) c.space-space.ensures.value) in
    record {
      lower = λ i index.
          closes_in s Standard i c.args.word.now (entry_place (get_or c.factors.last_closing (i - 1) 0)) order
          (lower_end s i c.args.word.now c.factors.place (get_or c.factors.open (i - 1) 0) (entry_place (get_or c.factors.last_closing (i - 1) 0))
          c.space-space.ensures.space index c.requires all (c.factors.invariant.last i index));
      raise = λ i index.
          opens_in s Standard i c.args.word.now (entry_place (get_or c.factors.first_opening (i - 1) 0)) order
          (bottom_end s i c.args.word.now c.factors.place (get_or c.factors.open (i - 1) 0) (entry_place (get_or c.factors.first_opening (i - 1) 0)) all (c.factors.invariant.first i index));
    }

pub returns-in-Kashiwara : goal.returns-in-Kashiwara
returns-in-Kashiwara c =
    let s : SpaceType = c.args.steps.now in
    let order : s.order ≡ Kashiwara = sym (c.order-order.ensures ∙ ap (λ (t : SpaceType). t.order) c.space-space.ensures.value) ∙ c.in-Kashiwara.is in
    let all : length s.factors ≤ c.factors.place = omega (arith, ap (λ (t : SpaceType). length t.factors) c.space-space.ensures.value) in
    record {
      lower = λ i index.
          opens_in s Kashiwara i c.args.word.now (entry_place (get_or c.factors.first_opening (i - 1) 0)) order
          (bottom_end s i c.args.word.now c.factors.place (get_or c.factors.open (i - 1) 0) (entry_place (get_or c.factors.first_opening (i - 1) 0)) all (c.factors.invariant.first i index));
      raise = λ i index.
          closes_in s Kashiwara i c.args.word.now (entry_place (get_or c.factors.last_closing (i - 1) 0)) order
          (lower_end s i c.args.word.now c.factors.place (get_or c.factors.open (i - 1) 0) (entry_place (get_or c.factors.last_closing (i - 1) 0))
          c.space-space.ensures.space index c.requires all (c.factors.invariant.last i index));
    }

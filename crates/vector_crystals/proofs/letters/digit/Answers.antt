use Rattle.std.proofs.Common.{arith, rules, ap, ◌∙◌, ◌≡◌, ◌-◌, ◌/◌, unsigned_abs, to_z, of_z, w8}
use Rattle.std.proofs.lemmas.Int.{ints, to_z-of_z}
use Rattle.vector_crystals.proofs.Digits.{digit-unbarred, digit-barred, digit-zero, height-fits}
use Rattle.vector_crystals.proofs.letters.digit.Goals as goal

pub returns-then-x-gt0 : goal.returns-then-x-gt0
returns-then-x-gt0 c =
    let plain : to_z w8 (of_z w8 c.args.x.0) ≡ c.args.x.0 = to_z-of_z w8 c.args.x.0 (search rules) in
    let height : c.from-height.result ≡ unsigned_abs c.args.x.0 = c.from-height.ensures ∙ (c.unsigned_abs.ensures.value ∙ ap unsigned_abs plain) in
    let digit = digit-unbarred c.args.cartan c.args.x.0 (c.from-height.result - 1) c.base_size-size.ensures.classical c.requires (omega (arith, ints)) (ap (λ h. h - 1) height) in
    record { value = digit.0; below = digit.1; back = digit.2 }

pub returns-then-x-lt0 : goal.returns-then-x-lt0
returns-then-x-lt0 c =
    let plain : to_z w8 (of_z w8 c.args.x.0) ≡ c.args.x.0 = to_z-of_z w8 c.args.x.0 (search rules) in
    let height : c.from-height.result ≡ unsigned_abs c.args.x.0 = c.from-height.ensures ∙ (c.unsigned_abs.ensures.value ∙ ap unsigned_abs plain) in
    let digit = digit-barred c.args.cartan c.args.x.0 (c.base_size-size.result - c.from-height.result) c.base_size-size.ensures.classical c.requires (omega (arith, ints)) (omega arith) in
    record { value = digit.0; below = digit.1; back = digit.2 }

pub returns-else-x-lt0 : goal.returns-else-x-lt0
returns-else-x-lt0 c =
    let plain : to_z w8 (of_z w8 c.args.x.0) ≡ c.args.x.0 = to_z-of_z w8 c.args.x.0 (search rules) in
    let height : c.from-height.result ≡ unsigned_abs c.args.x.0 = c.from-height.ensures ∙ (c.unsigned_abs.ensures.value ∙ ap unsigned_abs plain) in
    let digit = digit-zero c.args.cartan c.args.x.0 (c.base_size-size.result / 2) c.base_size-size.ensures.classical c.requires (omega (arith, ints)) (ap (λ n. n / 2) c.base_size-size.ensures.count) in
    record { value = digit.0; below = digit.1; back = digit.2 }

pub overflow_sub-result-then-x-lt0 : goal.overflow_sub-result-then-x-lt0
overflow_sub-result-then-x-lt0 c =
    let plain : to_z w8 (of_z w8 c.args.x.0) ≡ c.args.x.0 = to_z-of_z w8 c.args.x.0 (search rules) in
    let height : c.from-height.result ≡ unsigned_abs c.args.x.0 = c.from-height.ensures ∙ (c.unsigned_abs.ensures.value ∙ ap unsigned_abs plain) in
    omega (arith, height-fits c.args.cartan c.args.x.0 c.base_size-size.ensures.classical c.requires)

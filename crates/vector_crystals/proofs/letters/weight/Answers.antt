use Rattle.std.proofs.Common.{arith, rules, ap, sym, ◌∙◌, ◌≡◌, unsigned_abs, to_z, of_z, w8}
use Rattle.std.proofs.lemmas.Int.{ints, to_z-of_z}
use Rattle.vector_crystals.proofs.Digits.{height-unbarred}
use Rattle.vector_crystals.proofs.Seminormal.{weight-unbarred, weight-barred, weight-zero, weight-small}
use Rattle.vector_crystals.proofs.letters.weight.Goals as goal

pub prove-unreachable-requires : goal.prove-unreachable-requires
prove-unreachable-requires c =
    let plain : to_z w8 (of_z w8 c.args.x.0) ≡ c.args.x.0 = to_z-of_z w8 c.args.x.0 (search rules) in
    let height : c.unsigned_abs-place.result ≡ unsigned_abs c.args.x.0 = c.unsigned_abs-place.ensures.value ∙ ap unsigned_abs plain in
    omega (arith, height-unbarred c.args.cartan c.args.x.0 c.size-unbarred.ensures.classical c.requires)

pub returns-then-x-gt0-clause-value : goal.returns-then-x-gt0-clause-value
returns-then-x-gt0-clause-value c =
    let plain : to_z w8 (of_z w8 c.args.x.0) ≡ c.args.x.0 = to_z-of_z w8 c.args.x.0 (search rules) in
    let height : c.unsigned_abs-place.result ≡ unsigned_abs c.args.x.0 = c.unsigned_abs-place.ensures.value ∙ ap unsigned_abs plain in
    weight-unbarred c.args.cartan c.args.x.0 c.put.result c.size-unbarred.ensures.classical c.requires (omega (arith, ints)) (rw (sym height, sym c.zero-zero.ensures.zero) c.put.ensures.value)

pub returns-then-x-gt0-clause-small : goal.returns-then-x-gt0-clause-small
returns-then-x-gt0-clause-small c = rw (returns-then-x-gt0-clause-value c) (weight-small c.args.cartan c.args.x.0)

pub returns-then-x-lt0-clause-value : goal.returns-then-x-lt0-clause-value
returns-then-x-lt0-clause-value c =
    let plain : to_z w8 (of_z w8 c.args.x.0) ≡ c.args.x.0 = to_z-of_z w8 c.args.x.0 (search rules) in
    let height : c.unsigned_abs-place.result ≡ unsigned_abs c.args.x.0 = c.unsigned_abs-place.ensures.value ∙ ap unsigned_abs plain in
    weight-barred c.args.cartan c.args.x.0 c.put-then-x-lt0.result c.size-unbarred.ensures.classical c.requires (omega (arith, ints)) (rw (sym height, sym c.zero-zero.ensures.zero) c.put-then-x-lt0.ensures.value)

pub returns-then-x-lt0-clause-small : goal.returns-then-x-lt0-clause-small
returns-then-x-lt0-clause-small c = rw (returns-then-x-lt0-clause-value c) (weight-small c.args.cartan c.args.x.0)

pub returns-else-x-lt0-clause-value : goal.returns-else-x-lt0-clause-value
returns-else-x-lt0-clause-value c =
    let plain : to_z w8 (of_z w8 c.args.x.0) ≡ c.args.x.0 = to_z-of_z w8 c.args.x.0 (search rules) in
    let height : c.unsigned_abs-place.result ≡ unsigned_abs c.args.x.0 = c.unsigned_abs-place.ensures.value ∙ ap unsigned_abs plain in
    weight-zero c.args.cartan c.args.x.0 c.zero-zero.result c.size-unbarred.ensures.classical c.requires (omega (arith, ints)) c.zero-zero.ensures.zero

pub returns-else-x-lt0-clause-small : goal.returns-else-x-lt0-clause-small
returns-else-x-lt0-clause-small c = rw (returns-else-x-lt0-clause-value c) (weight-small c.args.cartan c.args.x.0)

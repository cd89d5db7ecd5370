use Rattle.std.proofs.Common.{ap, sym, refl, ◌∙◌, ◌≡◌, true, false, pos, unsigned_abs, to_z, of_z, to_z-of_z, w8, int_eq}
use Rattle.std.specs.Int.Signed.{lt_z}
use Rattle.crystal_cartan.specs.Types.{coordinates}
use Rattle.crystal_cartan.specs.declared.types.Kind.TheVariants.{A, B}
use Rattle.vector_crystals.proofs.Digits.{is_letter-iff, is_letter-iff_nonzero, height_test, nonzero_test}
use Rattle.vector_crystals.proofs.letters.is_letter.Goals as goal

pub returns-then-value-gt0 : goal.returns-then-value-gt0
returns-then-value-gt0 c =
    let plain : to_z w8 (of_z w8 c.args.value) ≡ c.args.value = to_z-of_z c.ranges.value in
    let height : c.unsigned_abs-height.result ≡ unsigned_abs c.args.value = c.unsigned_abs-height.ensures.value ∙ ap unsigned_abs plain in
    let low = height_test c.unsigned_abs-height.result c.size-unbarred.result (unsigned_abs c.args.value) (coordinates c.args.cartan) height c.size-unbarred.ensures.size in
    let sign : lt_z (pos 0) c.args.value ≡ true = rw plain at c.if-value-gt0.true in
    is_letter-iff c.args.cartan A c.args.value _ c.size-unbarred.ensures.classical (cc) (rw sign low)

pub returns-else-value-gt0 : goal.returns-else-value-gt0
returns-else-value-gt0 c =
    let plain : to_z w8 (of_z w8 c.args.value) ≡ c.args.value = to_z-of_z c.ranges.value in
    let height : c.unsigned_abs-height.result ≡ unsigned_abs c.args.value = c.unsigned_abs-height.ensures.value ∙ ap unsigned_abs plain in
    let low = height_test c.unsigned_abs-height.result c.size-unbarred.result (unsigned_abs c.args.value) (coordinates c.args.cartan) height c.size-unbarred.ensures.size in
    let sign : lt_z (pos 0) c.args.value ≡ false = rw plain at c.if-value-gt0.false in
    is_letter-iff c.args.cartan A c.args.value _ c.size-unbarred.ensures.classical (cc) (rw (plain, sign) refl)

pub returns-in-B : goal.returns-in-B
returns-in-B c =
    let plain : to_z w8 (of_z w8 c.args.value) ≡ c.args.value = to_z-of_z c.ranges.value in
    let height : c.unsigned_abs-height.result ≡ unsigned_abs c.args.value = c.unsigned_abs-height.ensures.value ∙ ap unsigned_abs plain in
    let low = height_test c.unsigned_abs-height.result c.size-unbarred.result (unsigned_abs c.args.value) (coordinates c.args.cartan) height c.size-unbarred.ensures.size in
    is_letter-iff c.args.cartan B c.args.value _ c.size-unbarred.ensures.classical (cc) (low)

pub returns-then-value-ne0 : goal.returns-then-value-ne0
returns-then-value-ne0 c =
    let plain : to_z w8 (of_z w8 c.args.value) ≡ c.args.value = to_z-of_z c.ranges.value in
    let height : c.unsigned_abs-height.result ≡ unsigned_abs c.args.value = c.unsigned_abs-height.ensures.value ∙ ap unsigned_abs plain in
    let low = height_test c.unsigned_abs-height.result c.size-unbarred.result (unsigned_abs c.args.value) (coordinates c.args.cartan) height c.size-unbarred.ensures.size in
    let other : int_eq c.args.value (pos 0) ≡ false = nonzero_test c.args.value (λ zero. c.if-value-ne0.true (ap (of_z w8) zero)) in
    is_letter-iff_nonzero c.args.cartan c.kind.result c.args.value _ c.size-unbarred.ensures.classical c.kind.ensures c.in-C.is (rw other low)

pub returns-else-value-ne0 : goal.returns-else-value-ne0
returns-else-value-ne0 c =
    let plain : to_z w8 (of_z w8 c.args.value) ≡ c.args.value = to_z-of_z c.ranges.value in
    let height : c.unsigned_abs-height.result ≡ unsigned_abs c.args.value = c.unsigned_abs-height.ensures.value ∙ ap unsigned_abs plain in
    let low = height_test c.unsigned_abs-height.result c.size-unbarred.result (unsigned_abs c.args.value) (coordinates c.args.cartan) height c.size-unbarred.ensures.size in
    let zero : c.args.value ≡ pos 0 = sym plain ∙ ap (to_z w8) c.if-value-ne0.false in
    is_letter-iff_nonzero c.args.cartan c.kind.result c.args.value _ c.size-unbarred.ensures.classical c.kind.ensures c.in-C.is (rw (c.if-value-ne0.false, zero) refl)

use Rattle.std.proofs.Common.{arith, length-drop}
use Rattle.std.proofs.KnownBytes.{Appends-trans}
use Rattle.std.proofs.Math.Seq.{take-add}
use Rattle.std.proofs.lemmas.List.{take_rest}
use Rattle.crystal_streams.proofs.wholes.write_all.Goals as goal

pub loop-at-preserved : goal.loop-at-preserved
loop-at-preserved g c =
    let piece = rw take_rest at c.in-Ok.ensures.bytes in
    let bound = rw take_rest at c.in-Ok.ensures.bound in
    record {
      within = omega (arith, bound.1, length-drop c.loop-at.at c.args.bytes.now);
      taken = rw take-add (Appends-trans _ _ _ _ _ c.loop-at.invariant.taken piece);
      later = omega (arith, c.loop-at.invariant.later, c.write.ensures.cause.kept);
    }

use Rattle.std.proofs.Common.{◌≡◌, ◌<◌, length, refl, Some, arith, rules}
use Rattle.std.specs.List.{slice_get}
use Rattle.std.proofs.lemmas.Option.{slice_get_read}
use Rattle.parcel_deques.proofs.EndSteps.{one_more, stole_here, of_none}
use Rattle.parcel_deques.proofs.ends.steal_between.Goals as goal

pub returns-in-Some-clause-some : goal.returns-in-Some-clause-some
returns-in-Some-clause-some g c =
    let many = c.loop-place.invariant.many in
    let below : c.loop-place.place < length c.loop-place.ends.items = omega arith in
    let at : slice_get c.loop-place.ends.items c.loop-place.place ≡ Some c.index_mut.result.now = slice_get_read c.loop-place.ends.items (length c.loop-place.ends.items) c.loop-place.place c.index_mut.result.now refl below (search rules) in
    stole_here c.args.from c.loop-place.place c.args.ends.now.items c.loop-place.ends.items c.index_mut.result.now c.steal.new.self c.loop-place.invariant at (omega arith) c.args.to c.in-Some.parcel c.loop-place-test.true c.in-Some.ensures.some

pub loop-place-preserved : goal.loop-place-preserved
loop-place-preserved g c =
    let many = c.loop-place.invariant.many in
    let below : c.loop-place.place < length c.loop-place.ends.items = omega arith in
    let at : slice_get c.loop-place.ends.items c.loop-place.place ≡ Some c.index_mut.result.now = slice_get_read c.loop-place.ends.items (length c.loop-place.ends.items) c.loop-place.place c.index_mut.result.now refl below (search rules) in
    one_more c.args.from c.loop-place.place c.args.ends.now.items c.loop-place.ends.items c.index_mut.result.now c.steal.new.self c.loop-place.invariant at (omega arith) (of_none c.steal.result c.in_default.not-Some c.steal.ensures.none)

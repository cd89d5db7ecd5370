-- The benches stand in two halves of the list.
use Rattle.std.proofs.Common.{◌≡◌, sym, ap, ◌∙◌, length, arith}
use Rattle.parcel_deques.proofs.GatherSteps.{swapped_halves}
use Rattle.parcel_deques.proofs.gathering.pair_at.Goals as goal

pub returns : goal.returns
returns g c =
    let same = c.deref_mut.ensures.value in
    let long = ap length same in
    let len = c.deref_mut.ensures.len in
    let all : c.args.benches.now.len ≡ length c.args.benches.now.items = omega arith in
    swapped_halves c.args.benches.now.items c.split_at_mut-front.result.0.now c.split_at_mut-front.result.1.now c.args.first c.args.second c.args.benches.now.len
    c.index-front-first.result c.index-back-0.result c.pair.new.one c.pair.new.two
    (sym same ∙ c.split_at_mut-front.ensures.value) c.split_at_mut-front.ensures.front_len c.requires.places.0 c.requires.places.1 all c.pair.ensures

-- One pair more at each step.
use Rattle.std.proofs.Common.{◌≡◌, ℕ, subst, arith}
use Rattle.parcel_deques.specs.Swapping.{AreSwapping}
use Rattle.parcel_deques.proofs.GatherSteps.{may_swap, swap_next, swap_more}
use Rattle.parcel_deques.proofs.gathering.swap_with_earlier.Goals as goal

pub pair_at-requires-clause-may : goal.pair_at-requires-clause-may
pair_at-requires-clause-may g c d =
    may_swap c.loop-first.first c.args.second c.requires.0 c.loop-first.benches.items d (c.loop-first.invariant c.requires.0 c.requires.2 c.requires.1) (omega arith) c.requires.2

pub loop-first-preserved : goal.loop-first-preserved
loop-first-preserved g c old within begun =
    swap_next c.loop-first.first c.args.second old c.loop-first.benches.items c.pair_at.new.benches.items (c.loop-first.invariant old within begun) c.pair_at.ensures (omega arith) within

pub returns : goal.returns
returns g c old within begun =
    let same : c.loop-first.first ≡ c.args.second = omega arith in
    swap_more c.args.second old c.loop-first.benches.items (subst (λ (n : ℕ). AreSwapping n c.args.second old c.loop-first.benches.items) same (c.loop-first.invariant old within begun)) within

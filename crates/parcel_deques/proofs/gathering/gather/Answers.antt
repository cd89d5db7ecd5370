-- All pairs swap passes.
use Rattle.std.proofs.Common.{◌≡◌, ◌<◌, ℕ, ap, subst, List, length, get_or, arith}
use Rattle.parcel_deques.specs.Parcels.{AllBelow}
use Rattle.parcel_deques.specs.Benches.{BenchValue}
use Rattle.parcel_deques.specs.Swapping.{AreSwapping}
use Rattle.parcel_deques.proofs.GatherSteps.{swap_none, swap_all}
use Rattle.parcel_deques.proofs.gathering.gather.Goals as goal

pub loop-second-init : goal.loop-second-init
loop-second-init g c =
    swap_none c.args.benches.now.items c.requires
    (subst (λ (l : List BenchValue). (k : ℕ) (d : BenchValue) → k < length l → AllBelow (length (get_or l k d).call) (get_or l k d).taken) c.deref.ensures.value c.owners_below.ensures)

pub returns : goal.returns
returns g c =
    let long = ap length c.deref.ensures.value in
    let same : c.loop-second.second ≡ length c.args.benches.now.items = omega arith in
    swap_all c.args.benches.now.items c.loop-second.benches.items (subst (λ (n : ℕ). AreSwapping 0 n c.args.benches.now.items c.loop-second.benches.items) same c.loop-second.invariant)

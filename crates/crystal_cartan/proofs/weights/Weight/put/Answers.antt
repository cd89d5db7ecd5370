use Rattle.std.proofs.Common.{arith, ◌≡◌, ◌-◌, ◌<◌, to_z, of_z, w32, take, slice_set, length, length-set, ap, ◌∙◌}
use Rattle.std.proofs.lemmas.Int.{to_z-of_z}
use Rattle.std.proofs.Math.Seq.{take-set-lt}
use Rattle.crystal_cartan.specs.Padded.{length-take_padded}
use Rattle.crystal_cartan.proofs.weights.Weight.put.Goals as goal

pub returns : goal.returns
returns c =
    let xs = c.weight.inside.doubled in
    let n = c.weight.inside.size in
    let i = c.args.j - 1 in
    let count : length (take n xs) ≡ n = length-take_padded _ 9 n xs c.weight.invariant in
    let below : i < n = omega (arith, count, ap length c.weight.view_is) in
    let same : to_z w32 (of_z w32 c.args.doubled) ≡ c.args.doubled = to_z-of_z w32 c.args.doubled c.ranges.doubled in
    let kept : take n (slice_set xs i c.args.doubled) ≡ slice_set (take n xs) i c.args.doubled = take-set-lt n xs i c.args.doubled below in
    let written : take n (slice_set xs i (to_z w32 (of_z w32 c.args.doubled))) ≡ slice_set c.args.self.now i c.args.doubled =
    rw same (kept ∙ ap (λ ys. slice_set ys i c.args.doubled) c.weight.view_is) in
    record { value = written; size = ap length written ∙ length-set c.args.self.now i c.args.doubled }

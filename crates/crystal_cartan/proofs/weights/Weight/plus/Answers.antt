use Rattle.std.proofs.Common.{◌≡◌, length, ap, arith, pos}
use Rattle.crystal_cartan.specs.Padded.{length-take_padded}
use Rattle.crystal_cartan.proofs.Coordinates.{small_padded, sums_padded, sums_are}
use Rattle.crystal_cartan.proofs.weights.Weight.plus.Goals as goal

pub sums-requires-clause-left : goal.sums-requires-clause-left
sums-requires-clause-left c = small_padded c.self.inside.size c.self.inside.doubled c.args.self.now c.self.invariant c.self.view_is c.requires.small

pub sums-requires-clause-right : goal.sums-requires-clause-right
sums-requires-clause-right c = small_padded c.other.inside.size c.other.inside.doubled c.args.other.now c.other.invariant c.other.view_is c.requires.other_small

pub invariant_of-result : goal.invariant_of-result
invariant_of-result c =
    let first = length-take_padded (pos 0) 9 c.self.inside.size c.self.inside.doubled c.self.invariant in
    let second = length-take_padded (pos 0) 9 c.other.inside.size c.other.inside.doubled c.other.invariant in
    let same : c.other.inside.size ≡ c.self.inside.size = omega (arith, first, second, ap length c.self.view_is, ap length c.other.view_is, c.requires.same) in
    sums_padded c.self.inside.size c.other.inside.size c.self.inside.doubled c.other.inside.doubled c.sums.result same c.sums.ensures.size c.self.invariant c.other.invariant c.sums.ensures.sums

pub returns-clause-sum : goal.returns-clause-sum
returns-clause-sum c =
    let first = length-take_padded (pos 0) 9 c.self.inside.size c.self.inside.doubled c.self.invariant in
    let second = length-take_padded (pos 0) 9 c.other.inside.size c.other.inside.doubled c.other.invariant in
    let same : c.other.inside.size ≡ c.self.inside.size = omega (arith, first, second, ap length c.self.view_is, ap length c.other.view_is, c.requires.same) in
    sums_are c.self.inside.size c.other.inside.size c.self.inside.doubled c.other.inside.doubled c.sums.result c.args.self.now c.args.other.now same c.sums.ensures.size
    c.self.invariant c.self.view_is c.other.view_is c.sums.ensures.sums

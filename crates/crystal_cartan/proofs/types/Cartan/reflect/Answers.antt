use Rattle.std.proofs.Common.{arith, ◌+◌, ◌≡◌, length, ◌-ℤ◌, ◌*ℤ◌, to_z, of_z, w32}
use Rattle.std.proofs.lemmas.Int.{ints}
use Rattle.crystal_cartan.specs.Weights.{coordinate, root_at, twice_pairing, reflection}
use Rattle.crystal_cartan.proofs.Coordinates.{filled_more, filled_all, small_at, product_small}
use Rattle.crystal_cartan.proofs.types.Cartan.reflect.Goals as goal

pub overflow_sub-doubled_at : goal.overflow_sub-doubled_at
overflow_sub-doubled_at c =
    let w = c.args.weight.now in
    let j = c.places.place + 1 in
    let left = small_at w j (omega arith) (omega arith) c.requires.small in
    let change = product_small c.twice_pairing-twice.result c.root_at-at.result c.twice_pairing-twice.ensures.small c.root_at-at.ensures.small in
    let twice : to_z w32 (of_z w32 c.twice_pairing-twice.result) ≡ c.twice_pairing-twice.result = omega (arith, ints) in
    let at : to_z w32 (of_z w32 c.root_at-at.result) ≡ c.root_at-at.result = omega (arith, ints) in
    rw (twice, at) (omega (arith, ints, c.doubled_at.ensures, left, change))

pub places-preserved : goal.places-preserved
places-preserved c =
    let t = c.args.self.now in
    let w = c.args.weight.now in
    let i = c.args.i in
    let j = c.places.place + 1 in
    let left = small_at w j (omega arith) (omega arith) c.requires.small in
    let change = product_small c.twice_pairing-twice.result c.root_at-at.result c.twice_pairing-twice.ensures.small c.root_at-at.ensures.small in
    let twice : to_z w32 (of_z w32 c.twice_pairing-twice.result) ≡ c.twice_pairing-twice.result = omega (arith, ints) in
    let at : to_z w32 (of_z w32 c.root_at-at.result) ≡ c.root_at-at.result = omega (arith, ints) in
    filled_more (length w) (λ j. coordinate w j -ℤ twice_pairing t w i *ℤ root_at t i j) c.places.place c.places.reflected c.put-reflected.result _ c.places.invariant
    (omega arith)
    c.put-reflected.ensures.value
    (rw (twice, at, ← c.twice_pairing-twice.ensures.value, ← c.root_at-at.ensures.value) (omega (arith, ints, c.doubled_at.ensures, left, change)))

pub returns-clause-reflected : goal.returns-clause-reflected
unfolding reflection
returns-clause-reflected c =
    let t = c.args.self.now in
    let w = c.args.weight.now in
    let i = c.args.i in
    filled_all (length w) (λ j. coordinate w j -ℤ twice_pairing t w i *ℤ root_at t i j) c.places.place c.places.reflected c.places.invariant (omega arith)

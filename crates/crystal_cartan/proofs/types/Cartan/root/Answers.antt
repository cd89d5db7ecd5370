use Rattle.std.proofs.Common.{List, ℤ, subst, sym, arith, ◌+ℤ◌}
use Rattle.std.proofs.lemmas.Int.{ints}
use Rattle.crystal_cartan.specs.Types.{coordinates}
use Rattle.crystal_cartan.specs.Weights.{root, root_at, IsSmall}
use Rattle.crystal_cartan.proofs.Coordinates.{filled_more, filled_all}
use Rattle.crystal_cartan.proofs.Bounds.{small_from_within, root_within}
use Rattle.crystal_cartan.proofs.types.Cartan.root.Goals as goal

pub places-preserved : goal.places-preserved
places-preserved c =
    let t = c.args.self.now in
    let i = c.args.i in
    filled_more (coordinates t) (λ j. root_at t i j +ℤ root_at t i j) c.places.place c.places.root c.put-root.result _ c.places.invariant (omega arith)
    c.put-root.ensures.value
    (omega (arith, ints, c.root_at-at.ensures.value, c.root_at-at.ensures.small))

pub returns-clause-root : goal.returns-clause-root
unfolding root
returns-clause-root c =
    let t = c.args.self.now in
    let i = c.args.i in
    filled_all (coordinates t) (λ j. root_at t i j +ℤ root_at t i j) c.places.place c.places.root c.places.invariant (omega arith)

pub returns-clause-small : goal.returns-clause-small
returns-clause-small c =
    let t = c.args.self.now in
    let i = c.args.i in
    let P : List ℤ → Type 0 = λ w. IsSmall w in
    subst P (sym (returns-clause-root c)) (small_from_within 4 (root t i) (omega arith) (root_within t i))

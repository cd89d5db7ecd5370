use Rattle.std.proofs.Common.{List, ℤ, subst, sym, arith, ◌≤◌, pos, ap, ◌∙◌}
use Rattle.crystal_cartan.specs.Weights.{weight_from, zero_weight, IsSmall}
use Rattle.crystal_cartan.proofs.Coordinates.{zeros_padded, zeros_are, coordinates_few}
use Rattle.crystal_cartan.proofs.Bounds.{small_from_within, zero_within}
use Rattle.crystal_cartan.proofs.weights.Weight.zero.Goals as goal

pub invariant_of-result : goal.invariant_of-result
invariant_of-result c =
    zeros_padded c.size.result (omega (arith, c.size.ensures.size, coordinates_few c.args.cartan c.size.ensures.classical))

pub returns-clause-zero : goal.returns-clause-zero
returns-clause-zero c =
    let few : c.size.result ≤ 9 = omega (arith, c.size.ensures.size, coordinates_few c.args.cartan c.size.ensures.classical) in
    zeros_are c.size.result few ∙ ap (λ n. weight_from n (λ j. pos 0)) c.size.ensures.size

pub returns-clause-small : goal.returns-clause-small
returns-clause-small c =
    let t = c.args.cartan in
    let P : List ℤ → Type 0 = λ w. IsSmall w in
    subst P (sym (returns-clause-zero c)) (small_from_within 0 (zero_weight t) (omega arith) (zero_within t))

use Rattle.std.proofs.Common.{arith}
use Rattle.crystal_cartan.proofs.Coordinates.{filled_all}
use Rattle.spin_crystals.specs.Signs.{vector_of}
use Rattle.spin_crystals.specs.SpinCrystals.{signs_weight, sign_coordinate}
use Rattle.spin_crystals.proofs.SignWeights.{signs_weight-small}
use Rattle.spin_crystals.proofs.weights.weight.Goals as goal

pub returns-clause-value : goal.returns-clause-value
unfolding signs_weight
returns-clause-value c =
    filled_all c.args.cartan.rank (sign_coordinate (vector_of c.args.x)) c.places.place c.places.weight c.places.invariant (omega arith)

pub returns-clause-small : goal.returns-clause-small
returns-clause-small c = rw (returns-clause-value c) (signs_weight-small c.args.cartan (vector_of c.args.x))

use Rattle.crystal_cartan.proofs.Coordinates.{IsFilled}
use Rattle.spin_crystals.specs.Signs.{vector_of}
use Rattle.spin_crystals.specs.SpinCrystals.{sign_coordinate}
use Rattle.spin_crystals.proofs.weights.weight.Given as goal

abbrev pub invariant-places : goal.invariant-places
invariant-places l = IsFilled l.fn.cartan.rank (sign_coordinate (vector_of l.x)) l.place l.weight

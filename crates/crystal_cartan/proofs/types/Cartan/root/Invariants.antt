use Rattle.std.proofs.Common.{◌+ℤ◌}
use Rattle.crystal_cartan.specs.Types.{coordinates}
use Rattle.crystal_cartan.specs.Weights.{root_at}
use Rattle.crystal_cartan.proofs.Coordinates.{IsFilled}
use Rattle.crystal_cartan.proofs.types.Cartan.root.Given as goal

abbrev pub invariant-places : goal.invariant-places
invariant-places l = IsFilled (coordinates l.self) (λ j. root_at l.self l.i j +ℤ root_at l.self l.i j) l.place l.root

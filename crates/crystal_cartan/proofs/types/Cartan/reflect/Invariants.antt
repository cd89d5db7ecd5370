use Rattle.std.proofs.Common.{length, ◌-ℤ◌, ◌*ℤ◌}
use Rattle.crystal_cartan.specs.Weights.{coordinate, root_at, twice_pairing}
use Rattle.crystal_cartan.proofs.Coordinates.{IsFilled}
use Rattle.crystal_cartan.proofs.types.Cartan.reflect.Given as goal

abbrev pub invariant-places : goal.invariant-places
invariant-places l =
    IsFilled (length l.weight) (λ j. coordinate l.weight j -ℤ twice_pairing l.self l.weight l.i *ℤ root_at l.self l.i j) l.place l.reflected

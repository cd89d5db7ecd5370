use Rattle.std.proofs.Common.{◌≡◌, drop}
use Rattle.crystal_characters.specs.Characters.{weight_order}
use Rattle.crystal_characters.proofs.weights.compare.Given as goal

abbrev pub invariant-places : goal.invariant-places
invariant-places l = weight_order (drop l.place l.left) (drop l.place l.right) ≡ weight_order l.left l.right

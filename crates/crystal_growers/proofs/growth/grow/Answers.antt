-- The list is that of the cells.
use Rattle.std.proofs.Common.{List, ℕ, sym, subst}
use Rattle.crystal_growers.specs.Growth.{IsCovered}
use Rattle.crystal_growers.proofs.growth.grow.Goals as goal

pub grow_by-requires-clause-owed : goal.grow_by-requires-clause-owed
grow_by-requires-clause-owed g c κs within = subst (λ (l : List ℕ). IsCovered c.args.seat.now l) (sym c.deref.ensures.value) c.requires.owed

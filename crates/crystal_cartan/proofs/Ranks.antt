-- What holds of each rank of a type.
use Rattle.std.proofs.Common.{◌≤◌, arith}
use Rattle.crystal_cartan.specs.Types.{CartanType, IsCartan, least_rank}
use Rattle.crystal_cartan.specs.declared.types.Kind.{Kind}
use Rattle.crystal_cartan.specs.declared.types.Kind.TheVariants.{A, B, C, D}

pub rank_positive : (t : CartanType) → IsCartan t → 1 ≤ t.rank
rank_positive t c = omega (arith, least t.kind, c.low)
  where
    least : (k : Kind) → 1 ≤ least_rank k
    least A = omega arith
    least B = omega arith
    least C = omega arith
    least D = omega arith

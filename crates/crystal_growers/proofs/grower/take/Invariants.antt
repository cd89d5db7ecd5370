-- Nothing was taken yet, and no pass was given back.
use Rattle.std.proofs.Common.{◌≡◌, []}
use Rattle.crystal_growers.proofs.grower.take.Given as goal

abbrev pub invariant-tries : goal.invariant-tries
invariant-tries g l = record { same : l.bench ≡ record l.fn.bench { known = l.bench.known }; away : l.bench.away ≡ [] }

use Rattle.std.proofs.Common.{◌≡◌, length}
use Rattle.plain_growth.specs.Growth.{HasFirstRoots}
use Rattle.plain_growth.proofs.growth.add_roots.Given as goal

abbrev pub invariant-roots : goal.invariant-roots
invariant-roots l = record {
  have : HasFirstRoots l.world.roots l.k l.found;
  same : l.roots ≡ l.world.roots;
  last : l.k-end ≡ length l.world.roots;
}

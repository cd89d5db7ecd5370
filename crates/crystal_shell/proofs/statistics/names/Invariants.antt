use Rattle.std.proofs.Common.{◌≡◌, map, take, length}
use Rattle.crystal_shell.proofs.statistics.names.Given as goal

abbrev pub invariant-names : goal.invariant-names
invariant-names g l = record {
  names : map (λ n. n.now) l.names.items ≡ map (λ b. (goal.Statistic-dyn g (b.vtable, b.value)).named b.value) (take l.stat-index l.stats);
  count : length l.names.items ≡ l.stat-index;
}

use Rattle.std.proofs.Common.{map, rules}
use Rattle.crystal_shell.proofs.Parts.{names_all}
use Rattle.crystal_shell.proofs.statistics.names.Goals as goal

pub returns-clause-names : goal.returns-clause-names
returns-clause-names g c =
    names_all (λ b. (goal.Statistic-dyn g (b.vtable, b.value)).named b.value) (λ b. (goal.Statistic-dyn g (b.vtable, b.value)).reported b.value) c.args.stats.now c.names.stat-index
    (map (λ n. n.now) c.names.names.items) c.names.invariant.names (search rules)

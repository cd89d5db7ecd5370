use Rattle.std.proofs.Common.{◌≡◌, map, take}
use Rattle.job_text.specs.declared.commands.Command.TheVariants.{Add}
use Rattle.graph_runs.proofs.serve.adds.Given as goal

abbrev pub invariant-codes : goal.invariant-codes
invariant-codes l = l.list.items ≡ map Add (take l.code-index l.code-items)

use Rattle.std.proofs.Common.{◌≡◌, ◌++◌, take}
use Rattle.job_text.specs.Jobs.{added_codes}
use Rattle.job_text.proofs.roots.put_added.Given as goal

abbrev pub invariant-commands : goal.invariant-commands
invariant-commands l = l.roots.items ≡ l.fn.roots.items ++ added_codes (take l.command-index l.script)

use Rattle.std.proofs.Common.{◌≡◌, ◌++◌, take}
use Rattle.std.specs.List.{flat_map}
use Rattle.job_text.specs.Jobs.{added_codes}
use Rattle.job_text.proofs.roots.roots_of.Given as goal

abbrev pub invariant-scripts : goal.invariant-scripts
invariant-scripts l = l.roots.items ≡ l.starts ++ flat_map added_codes (take l.script-index l.scripts)

use Rattle.std.proofs.Common.{◌≡◌, take}
use Rattle.job_text.proofs.arguments.narrowed.Given as goal

abbrev pub invariant-numbers : goal.invariant-numbers
invariant-numbers l = l.list.items ≡ take l.number-index l.numbers

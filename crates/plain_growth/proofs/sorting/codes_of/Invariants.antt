use Rattle.std.proofs.Common.{◌≡◌, take}
use Rattle.plain_growth.specs.Growth.{codes_in}
use Rattle.plain_growth.proofs.sorting.codes_of.Given as goal

abbrev pub invariant-list : goal.invariant-list
invariant-list l = l.codes.items ≡ codes_in (take l.x-index l.list)

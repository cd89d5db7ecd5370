use Rattle.std.proofs.Common.{◌≡◌, take}
use Rattle.std.specs.List.{count_by}
use Rattle.crystal_characters.specs.Reports.{is_end}
use Rattle.crystal_characters.proofs.end_tally.end_count.Given as goal

abbrev pub invariant-items : goal.invariant-items
invariant-items l = l.count ≡ count_by is_end (take l.item-index l.items)

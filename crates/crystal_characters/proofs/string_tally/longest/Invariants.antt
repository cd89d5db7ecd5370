use Rattle.std.proofs.Common.{◌≡◌, map, take}
use Rattle.crystal_characters.specs.Reports.{heads, greatest, item_phi}
use Rattle.crystal_characters.proofs.string_tally.longest.Given as goal

abbrev pub invariant-items : goal.invariant-items
invariant-items l = l.longest ≡ greatest (map (item_phi l.i) (heads l.i (take l.item-index l.items)))

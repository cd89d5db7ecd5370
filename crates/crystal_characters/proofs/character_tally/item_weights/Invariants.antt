use Rattle.std.proofs.Common.{◌≡◌, map, take}
use Rattle.crystal_characters.proofs.character_tally.item_weights.Given as goal

abbrev pub invariant-items : goal.invariant-items
invariant-items l = l.list.items ≡ map (λ x. x.weight) (take l.item-index l.items)

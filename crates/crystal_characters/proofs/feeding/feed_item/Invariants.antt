use Rattle.std.proofs.Common.{◌≡◌, ◌++◌, ◌<◌, ℕ, List, [], ◌∷◌, length, get_or, take}
use Rattle.crystal_characters.specs.declared.items.Item.{Item}
use Rattle.crystal_characters.specs.Items.{items_for}
use Rattle.crystal_characters.proofs.feeding.feed_item.Given as goal

abbrev pub invariant-objects : goal.invariant-objects
invariant-objects g l =
    (length l.statistics.items ≡ length l.fn.statistics.items)
    × ((k : ℕ) (d : _) → k < length l.fn.statistics.items →
    let new = get_or l.statistics.items k d in
    let old = get_or l.fn.statistics.items k d in
    let now = goal.Statistic-dyn g (new.vtable, new.value) in
    let before = goal.Statistic-dyn g (old.vtable, old.value) in
    (now.fed new.value ≡ before.fed old.value ++ items_for (take l.j l.places) k (l.item ∷ []))
    × (now.named new.value ≡ before.named old.value)
    × ((items : List Item) → now.reported new.value items ≡ before.reported old.value items))

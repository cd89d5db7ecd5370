use Rattle.std.proofs.Common.{refl}
use Rattle.crystal_characters.proofs.ItemLists.{one_more_place}
use Rattle.crystal_characters.proofs.feeding.every_place.Goals as goal

pub places-preserved : goal.places-preserved
places-preserved c = one_more_place c.places.k c.places.k _ _ refl c.places.invariant c.in_ok-push.ensures.items

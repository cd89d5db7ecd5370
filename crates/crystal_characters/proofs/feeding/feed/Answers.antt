use Rattle.std.proofs.Common.{◌∙◌, arith}
use Rattle.std.proofs.lemmas.List.FromFn.{length-range_with_len, get_or-range_with_len}
use Rattle.std.proofs.lemmas.Result.{on_ok_weaker}
use Rattle.crystal_characters.specs.Items.{items_of}
use Rattle.crystal_characters.proofs.ItemLists.{different_places, all_fed, part_fed}
use Rattle.crystal_characters.proofs.feeding.feed.Goals as goal

pub feed_chosen-requires-clause-distinct : goal.feed_chosen-requires-clause-distinct
feed_chosen-requires-clause-distinct g c = rw (c.as_slice.ensures.value, c.in_ok-places.ensures) (different_places c.len.result)

pub feed_chosen-requires-clause-below : goal.feed_chosen-requires-clause-below
feed_chosen-requires-clause-below g c = rw (c.as_slice.ensures.value, c.in_ok-places.ensures) (λ j lt.
    let within = length-range_with_len 0 c.len.result in
    omega (arith, lt, within, get_or-range_with_len 0 c.len.result j 0 (omega (arith, lt, within)), c.len.ensures))

pub returns-clause-all : goal.returns-clause-all
returns-clause-all g c =
    on_ok_weaker c.feed_chosen.result (λ told k d lt.
    all_fed c.as_slice.result.now c.len.result k (items_of c.args.finished.now) _ _ (c.as_slice.ensures.value ∙ c.in_ok-places.ensures) (omega (arith, lt, c.len.ensures))
    (told k d lt)) c.feed_chosen.ensures.all

pub returns-clause-part : goal.returns-clause-part
returns-clause-part g c = λ k d lt.
    let told = c.feed_chosen.ensures.part k d lt in (
      told.0,
      part_fed c.as_slice.result.now c.len.result k told.0 (items_of c.args.finished.now) _ _ (c.as_slice.ensures.value ∙ c.in_ok-places.ensures) (omega (arith, lt, c.len.ensures)) told.1,
    )

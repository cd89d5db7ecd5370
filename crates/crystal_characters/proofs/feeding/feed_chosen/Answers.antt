use Rattle.std.proofs.Common.{◌∙◌, ◌<◌, length, arith}
use Rattle.crystal_characters.proofs.ItemLists.{chosen_items_more, chosen_items_part, chosen_items_all}
use Rattle.crystal_characters.proofs.feeding.feed_chosen.Goals as goal

pub returns-in_err-feed_item-clause-part : goal.returns-in_err-feed_item-clause-part
returns-in_err-feed_item-clause-part g c = λ k d lt.
    let told = c.in_err-feed_item.ensures.part k d (omega (arith, c.ranks.invariant.0, lt)) in
    chosen_items_part c.args.finished.now c.args.places.now k c.ranks.rank told.0 c.item_of.result _ _ _ c.item_of.ensures.item
    (omega (arith, c.ranks-test.true, c.len-rank-end.ensures.len)) (c.ranks.invariant.1 k d lt).0 told.1

pub ranks-preserved : goal.ranks-preserved
ranks-preserved g c = (
  c.in_ok-feed_item.ensures.len ∙ c.ranks.invariant.0,
  λ k d lt.
      let there : k < length c.ranks.statistics.items = omega (arith, c.ranks.invariant.0, lt) in (
        chosen_items_more c.args.finished.now c.args.places.now k c.ranks.rank c.item_of.result _ _ _ c.item_of.ensures.item (c.ranks.invariant.1 k d lt).0
            (c.in_ok-feed_item.ensures.all k d there),
        c.in_ok-feed_item.ensures.named k d there ∙ (c.ranks.invariant.1 k d lt).1,
        λ items. c.in_ok-feed_item.ensures.reported k d items there ∙ (c.ranks.invariant.1 k d lt).2 items,
      ),
)

pub returns-clause-part : goal.returns-clause-part
returns-clause-part g c = λ k d lt.
    chosen_items_all c.args.finished.now c.args.places.now k c.ranks.rank _ _ (omega (arith, c.ranks-test.false, c.ranks.auto, c.len-rank-end.ensures.len)) (c.ranks.invariant.1 k d lt).0

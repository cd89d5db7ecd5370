use Rattle.std.proofs.Common.{◌∙◌, refl, ◌<◌, [], ◌∷◌, length, get_or, arith}
use Rattle.std.proofs.lemmas.List.{length-set}
use Rattle.crystal_characters.proofs.ItemLists.{chosen_more, part_chosen, kept_at}
use Rattle.crystal_characters.proofs.feeding.feed_item.Goals as goal

pub returns-in_err-take_one-clause-part : goal.returns-in_err-take_one-clause-part
returns-in_err-take_one-clause-part g c =
    let nows = c.objects.statistics.items in
    λ k d lt.
    part_chosen c.args.places.now c.objects.j k (c.args.item.now ∷ []) _ _
    (kept_at (λ b. (goal.Statistic-dyn g (b.vtable, b.value)).fed b.value) nows (get_or c.args.places.now c.objects.j 0) c.index_mut.result.now c.take_one.new.statistic
    (omega (arith, c.objects.invariant.0, c.requires.below c.objects.j c.objects-test.true)) c.index_mut.ensures.value c.in_err-take_one.ensures.fed k d
    (omega (arith, c.objects.invariant.0, lt)) ∙ (c.objects.invariant.1 k d lt).0)

pub objects-preserved : goal.objects-preserved
objects-preserved g c =
    let nows = c.objects.statistics.items in
    let p = get_or c.args.places.now c.objects.j 0 in
    let x = c.index_mut.result.now in
    let y = c.take_one.new.statistic in
    let there : p < length nows = omega (arith, c.objects.invariant.0, c.requires.below c.objects.j c.objects-test.true) in (
      length-set nows p y ∙ c.objects.invariant.0,
      λ k d lt. (
        chosen_more c.args.statistics.now.items nows (λ b. (goal.Statistic-dyn g (b.vtable, b.value)).fed b.value) (c.args.item.now ∷ []) c.args.places.now c.objects.j p x y
            c.requires.distinct c.objects-test.true refl c.objects.invariant.0 there c.index_mut.ensures.value (λ j e below. (c.objects.invariant.1 j e below).0)
            c.in_ok-take_one.ensures.fed k d lt,
        kept_at (λ b. (goal.Statistic-dyn g (b.vtable, b.value)).named b.value) nows p x y there c.index_mut.ensures.value c.in_ok-take_one.ensures.named k d
            (omega (arith, c.objects.invariant.0, lt)) ∙ (c.objects.invariant.1 k d lt).1,
        λ items. kept_at (λ b. (goal.Statistic-dyn g (b.vtable, b.value)).reported b.value items) nows p x y there c.index_mut.ensures.value (c.in_ok-take_one.ensures.reported items) k d
            (omega (arith, c.objects.invariant.0, lt)) ∙ (c.objects.invariant.1 k d lt).2 items,
      ),
    )

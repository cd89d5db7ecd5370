use Rattle.std.proofs.Common.{◌∙◌, sym, ap, subst, [], arith, rules}
use Rattle.std.specs.List.Sorted.{IsSortedBy, IsPermutation}
use Rattle.std.proofs.lemmas.List.Sorted.{answers_always}
use Rattle.crystal_characters.specs.Characters.{counted, IsFalling}
use Rattle.crystal_characters.proofs.Sorted.{comes_first, first_is_order, front_none, front_more, front_falls, front_few, front_least, front_all}
use Rattle.crystal_characters.proofs.tallies.tally_of.Goals as goal

pub weights-init : goal.weights-init
weights-init c = c.new-list.ensures.items ∙ sym (front_none [])

pub count-requires-clause-falling : goal.count-requires-clause-falling
count-requires-clause-falling c = subst IsFalling (sym c.weights.invariant) (front_falls c.deref-weight-items.result.now c.weights.weight-index)

pub count-requires-clause-least : goal.count-requires-clause-least
count-requires-clause-least c =
    let sorted : IsSortedBy comes_first c.sort_unstable_by.new.self.items =
    c.sort_unstable_by.ensures.sorted comes_first first_is_order (answers_always _ _ _ (λ f a r g k. search rules)) in
    rw c.weights.invariant
    (front_least c.deref-weight-items.result.now c.weights.weight-index c.weight-item.result (subst (IsSortedBy comes_first) (sym c.deref-weight-items.ensures.value) sorted)
    (search rules) c.weight-item.is)

pub count-requires-clause-few : goal.count-requires-clause-few
count-requires-clause-few c = rw c.weights.invariant (λ k d lt.
    omega (arith, front_few c.deref-weight-items.result.now c.weights.weight-index (omega arith) k d lt, c.deref-weight-items.ensures.len, c.sort_unstable_by.new.self.small))

pub weights-preserved : goal.weights-preserved
weights-preserved c =
    c.in_ok-count.ensures ∙ ap (λ ms. counted ms c.weight-item.result) c.weights.invariant
    ∙ front_more c.deref-weight-items.result.now c.weights.weight-index c.weight-item.result (search rules) c.weight-item.is

pub returns : goal.returns
returns c =
    let moved : IsPermutation c.args.weights.items c.deref-weight-items.result.now =
    subst (IsPermutation c.args.weights.items) (sym c.deref-weight-items.ensures.value) c.sort_unstable_by.ensures.permutation in
    c.weights.invariant ∙ front_all c.args.weights.items c.deref-weight-items.result.now c.weights.weight-index moved (search rules)

-- One bench more.
use Rattle.std.proofs.Common.{◌≡◌, ◌+◌, ◌<◌, ◌∙◌, sym, ap, subst, List, length, get_or, drop, arith, rules}
use Rattle.std.proofs.lemmas.List.{drop-drop}
use Rattle.parcel_deques.specs.Ends.{EndValue}
use Rattle.parcel_deques.specs.Owners.{OwnValue}
use Rattle.parcel_deques.specs.Benches.{BenchValue, IsBench}
use Rattle.parcel_deques.specs.Sharing.{AreMade}
use Rattle.parcel_deques.proofs.SharingSteps.{first_left, made_more}
use Rattle.parcel_deques.proofs.making.assemble.Goals as goal

pub of-requires : goal.of-requires
of-requires g c =
    let k = c.loop-place._place in
    let owns = c.args.owns.items in
    let lists = c.args.lists.items in
    let own = c.remove-own.result in
    let ends = c.remove-ends.result in
    let many = c.requires.many in
    let within : k < length owns = omega arith in
    let in_lists : k < length lists = omega arith in
    let own_is : own ≡ get_or owns k own = first_left owns k own own within (c.remove-own.ensures.value ∙ ap (λ (l : List OwnValue). get_or l 0 own) c.loop-place.invariant.owns_left) in
    let ends_are : ends ≡ get_or lists k ends = first_left lists k ends ends in_lists (c.remove-ends.ensures.value ∙ ap (λ (l : List (List EndValue)). get_or l 0 ends) c.loop-place.invariant.lists_left) in
    subst (λ (x : List EndValue). IsBench own x) (sym (c.ends.view_is ∙ ends_are))
    (subst (λ (x : OwnValue). IsBench x (get_or lists k ends)) (sym own_is) (c.requires.each k own ends within))

pub loop-place-preserved : goal.loop-place-preserved
loop-place-preserved g c =
    let i = c.loop-place.invariant in
    let k = c.loop-place._place in
    let owns = c.args.owns.items in
    let lists = c.args.lists.items in
    let own = c.remove-own.result in
    let ends = c.remove-ends.result in
    let many = c.requires.many in
    let within : k < length owns = omega arith in
    let in_lists : k < length lists = omega arith in
    record {
      owns_left = c.remove-own.ensures.items ∙ ap (λ (l : List OwnValue). drop 1 l) i.owns_left ∙ drop-drop 1 k owns;
      lists_left = c.remove-ends.ensures.items ∙ ap (λ (l : List (List EndValue)). drop 1 l) i.lists_left ∙ drop-drop 1 k lists;
      made = subst (λ (l : List BenchValue). AreMade owns lists (k + 1) l) (sym c.push_reserved.ensures.items)
          (made_more owns lists k c.loop-place.benches.items own c.ends.inside.list.items c.of.result i.made
          (λ d. first_left owns k own d within (c.remove-own.ensures.value ∙ ap (λ (l : List OwnValue). get_or l 0 own) i.owns_left))
          (λ f. c.ends.view_is ∙ first_left lists k ends f in_lists (c.remove-ends.ensures.value ∙ ap (λ (l : List (List EndValue)). get_or l 0 ends) i.lists_left))
          c.of.ensures);
      room = search rules;
    }

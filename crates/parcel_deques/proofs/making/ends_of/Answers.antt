-- One end more.
use Rattle.std.proofs.Common.{◌+◌, ◌<◌, ◌∙◌, sym, subst, List, length, set, arith, rules}
use Rattle.std.proofs.lemmas.List.{get_or_read}
use Rattle.parcel_deques.specs.Ends.{EndValue}
use Rattle.parcel_deques.specs.Owners.{OwnValue}
use Rattle.parcel_deques.specs.Sharing.{HasGiven, AreGiving}
use Rattle.parcel_deques.proofs.SharingSteps.{giving_more}
use Rattle.parcel_deques.proofs.making.ends_of.Goals as goal

pub loop-place-preserved : goal.loop-place-preserved
loop-place-preserved g c =
    let i = c.loop-place.invariant.giving in
    let k = c.loop-place.place in
    let old = c.args.owns.now.items in
    let now = c.loop-place.owns.items in
    let within : k < length old = omega arith in
    let many = i.many in
    let in_now : k < length now = omega arith in
    let o = c.end_at.new.own in
    let e = c.in_ok-end.end in
    record {
      giving = subst (λ (l : List EndValue). AreGiving c.args.taker (k + 1) old (set now k o) l) (sym c.push_reserved.ensures.items)
          (giving_more c.args.taker k old now c.loop-place.list.items o e i within
          (λ d. subst (λ (x : OwnValue). HasGiven c.args.taker k x o e) (get_or_read now k c.index_mut.result.now in_now c.index_mut.ensures.value d ∙ i.rest k d (omega arith)) c.in_ok-end.ensures));
      room = search rules;
    }

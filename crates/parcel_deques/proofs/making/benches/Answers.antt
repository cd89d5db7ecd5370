-- The ends of one bench more, and all benches.
use Rattle.std.proofs.Common.{◌≡◌, ◌+◌, ◌<◌, ℕ, sym, ap, subst, ◌∙◌, List, length, get_or, arith, rules}
use Rattle.std.proofs.lemmas.List.{length_push}
use Rattle.std.proofs.lemmas.Result.{IfOk-weaker}
use Rattle.parcel_deques.specs.Ends.{EndValue}
use Rattle.parcel_deques.specs.Making.{AreNew}
use Rattle.parcel_deques.specs.Sharing.{deques, AreSharing, AreEnds, AreMade}
use Rattle.parcel_deques.proofs.SharingSteps.{sharing_more, lists_more, are_parts, are_new}
use Rattle.parcel_deques.proofs.making.benches.Goals as goal

pub loop-taker-preserved : goal.loop-taker-preserved
loop-taker-preserved g c =
    let i = c.loop-taker.invariant in
    let many = i.many in
    let long = ap length c.push_reserved.ensures.items in
    let pushed = length_push c.loop-taker.lists.items c.in_ok-ends.ends in
    record {
      sharing = sharing_more c.args.growers c.args.capacity c.loop-taker.taker c.loop-taker.owns.items c.ends_of.new.owns.items c.in_ok-ends.ends i.sharing c.in_ok-ends.ensures (omega arith);
      many = omega arith;
      ends = subst (λ (l : List (List EndValue)). (k : ℕ) (f : List EndValue) → k < c.loop-taker.taker + 1 → AreEnds (deques c.ends_of.new.owns.items) k (get_or l k f)) (sym c.push_reserved.ensures.items)
          (lists_more c.args.growers c.args.capacity c.loop-taker.taker c.loop-taker.owns.items c.ends_of.new.owns.items c.loop-taker.lists.items c.in_ok-ends.ends i.sharing c.in_ok-ends.ensures (omega arith) i.many i.ends);
      room = search rules;
    }

pub assemble-requires : goal.assemble-requires
assemble-requires g c =
    let same : c.loop-taker.taker ≡ c.args.growers = omega arith in
    are_parts c.args.growers c.args.capacity c.loop-taker.owns.items c.loop-taker.lists.items
    (subst (λ (n : ℕ). AreSharing c.args.growers c.args.capacity n c.loop-taker.owns.items) same c.loop-taker.invariant.sharing)
    c.requires.1 (c.loop-taker.invariant.many ∙ same) (λ k f low. c.loop-taker.invariant.ends k f (omega arith))

pub returns : goal.returns
returns g c =
    let same : c.loop-taker.taker ≡ c.args.growers = omega arith in
    IfOk-weaker c.assemble.result
    (λ v. AreMade c.loop-taker.owns.items c.loop-taker.lists.items (length c.loop-taker.owns.items) v.items) (λ v. AreNew c.args.growers c.args.capacity v.items)
    (λ v made. are_new c.args.growers c.args.capacity c.loop-taker.owns.items c.loop-taker.lists.items v.items
    (subst (λ (n : ℕ). AreSharing c.args.growers c.args.capacity n c.loop-taker.owns.items) same c.loop-taker.invariant.sharing) (λ k f low. c.loop-taker.invariant.ends k f (omega arith)) made)
    c.assemble.ensures

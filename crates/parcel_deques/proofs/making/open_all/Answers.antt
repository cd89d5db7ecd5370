-- One deque more.
use Rattle.std.proofs.Common.{◌+◌, sym, subst, List, rules}
use Rattle.parcel_deques.specs.Owners.{OwnValue}
use Rattle.parcel_deques.specs.Sharing.{AreSharing}
use Rattle.parcel_deques.proofs.SharingSteps.{open_more}
use Rattle.parcel_deques.proofs.making.open_all.Goals as goal

pub loop-number-preserved : goal.loop-number-preserved
loop-number-preserved g c = record {
  sharing = subst (λ (l : List OwnValue). AreSharing (c.loop-number.number + 1) c.args.capacity 0 l) (sym c.push_reserved.ensures.items)
      (open_more c.loop-number.number c.args.capacity c.loop-number.owns.items c.in_ok-own.own c.loop-number.invariant.sharing c.in_ok-own.ensures.0 c.in_ok-own.ensures.1);
  room = search rules;
}

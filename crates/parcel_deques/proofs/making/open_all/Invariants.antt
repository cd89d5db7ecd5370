-- The deques so far are new, and their owners have all shares.
use Rattle.std.proofs.Common.{◌≤◌, vec_capacity}
use Rattle.parcel_deques.specs.Sharing.{AreSharing}
use Rattle.parcel_deques.proofs.making.open_all.Given as goal

abbrev pub invariant-loop-number : goal.invariant-loop-number
invariant-loop-number g l = record {
  sharing : AreSharing l.number l.capacity 0 l.owns.items;
  room : l.growers ≤ vec_capacity l.owns;
}

-- The owners before the place gave their ends.
use Rattle.std.proofs.Common.{◌≤◌, length, vec_capacity}
use Rattle.parcel_deques.specs.Sharing.{AreGiving}
use Rattle.parcel_deques.proofs.making.ends_of.Given as goal

abbrev pub invariant-loop-place : goal.invariant-loop-place
invariant-loop-place g l = record {
  giving : AreGiving l.taker l.place l.fn.owns.items l.owns.items l.list.items;
  room : length l.fn.owns.items ≤ vec_capacity l.list;
}

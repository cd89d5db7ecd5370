-- The owners and ends from the place on are left, and the benches before it are made.
use Rattle.std.proofs.Common.{◌≡◌, ◌≤◌, drop, vec_capacity}
use Rattle.parcel_deques.specs.Sharing.{AreMade}
use Rattle.parcel_deques.proofs.making.assemble.Given as goal

abbrev pub invariant-loop-place : goal.invariant-loop-place
invariant-loop-place g l = record {
  owns_left : l.owns.items ≡ drop l._place l.fn.owns.items;
  lists_left : l.lists.items ≡ drop l._place l.fn.lists.items;
  made : AreMade l.fn.owns.items l.fn.lists.items l._place l.benches.items;
  room : l.count ≤ vec_capacity l.benches;
}

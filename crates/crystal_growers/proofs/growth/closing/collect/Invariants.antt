-- The first growers are taken in.
use Rattle.std.proofs.Common.{◌≡◌, ◌≤◌, drop, vec_capacity}
use Rattle.crystal_growers.specs.Gathering.{AreStarts}
use Rattle.crystal_growers.proofs.Collection.{IsCollecting}
use Rattle.crystal_growers.proofs.growth.closing.collect.Given as goal

abbrev pub invariant-shifts : goal.invariant-shifts
invariant-shifts g l = record {
  are : AreStarts l.graph l.fn.seat.view.front l._starts.value.items;
  left : l.shifts.items ≡ drop l._place l.fn.shifts.items;
  collecting : IsCollecting l.graph l.fn.seat l.seat l._starts.value.items are.call l.benches.items l._place l.full;
  room : l.count ≤ vec_capacity l.benches;
}

-- No pass is brought home.
use Rattle.std.proofs.Common.{◌≡◌, ◌≤◌, length}
use Rattle.parcel_deques.specs.Making.{AreApart}
use Rattle.growth_tests.proofs.tests.gatherings.steal_each.Given as goal

abbrev pub invariant-loop-place : goal.invariant-loop-place
invariant-loop-place g l = record {
  apart : AreApart l.benches.items;
  few : l.stolen ≤ l.place;
  many : length l.benches.items ≡ length l.fn.benches.items;
}

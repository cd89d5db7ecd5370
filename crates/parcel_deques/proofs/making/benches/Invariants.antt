-- The benches before the taker have their ends.
use Rattle.std.proofs.Common.{◌≡◌, ◌<◌, ◌≤◌, ℕ, List, length, get_or, vec_capacity}
use Rattle.parcel_deques.specs.Ends.{EndValue}
use Rattle.parcel_deques.specs.Sharing.{deques, AreSharing, AreEnds}
use Rattle.parcel_deques.proofs.making.benches.Given as goal

abbrev pub invariant-loop-taker : goal.invariant-loop-taker
invariant-loop-taker g l = record {
  sharing : AreSharing l.growers l.capacity l.taker l.owns.items;
  many : length l.lists.items ≡ l.taker;
  ends : (k : ℕ) (f : List EndValue) → k < l.taker → AreEnds (deques l.owns.items) k (get_or l.lists.items k f);
  room : l.growers ≤ vec_capacity l.lists;
}

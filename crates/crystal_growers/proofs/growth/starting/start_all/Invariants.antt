-- The first growers have their seats.
use Rattle.std.proofs.Common.{◌≤◌, vec_capacity, length}
use Rattle.crystal_growers.proofs.Loading.{IsStarting}
use Rattle.crystal_growers.proofs.growth.starting.start_all.Given as goal

abbrev pub invariant-growers : goal.invariant-growers
invariant-growers g l = record {
  starting : IsStarting l.graph l.fn.seat l.seat l.fn.benches.items l.benches.items l.starts.items l.worker l.share;
  room : length l.fn.benches.items ≤ vec_capacity l.starts;
}

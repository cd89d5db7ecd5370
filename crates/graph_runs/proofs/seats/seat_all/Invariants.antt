use Rattle.std.proofs.Common.{◌≤◌, vec_capacity}
use Rattle.graph_runs.specs.Seating.{IsSeated}
use Rattle.graph_runs.proofs.seats.seat_all.Given as goal

abbrev pub invariant-places : goal.invariant-places
invariant-places l = record {
  seated : IsSeated l.graph l.fn.seat l.seat l.place l.sessions.items;
  spare : l.count ≤ vec_capacity l.sessions;
}

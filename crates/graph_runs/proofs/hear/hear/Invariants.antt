use Rattle.std.proofs.Common.{length}
use Rattle.graph_runs.specs.Hearing.{IsHearing, AreWaiting}
use Rattle.graph_runs.proofs.hear.hear.Given as goal

abbrev pub invariant-sessions : goal.invariant-sessions
invariant-sessions l = record {
  hearing : IsHearing l.graph l.scripts l.fn.seat l.seat (length l.back.items) l.told.items l.cells.items;
  waiting : AreWaiting l.graph l.scripts l.back.items;
}

abbrev pub decreases-sessions : goal.decreases-sessions
decreases-sessions l = length l.back.items

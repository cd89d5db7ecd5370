use Rattle.table_calls.specs.Search.{Searching}
use Rattle.table_calls.proofs.entries.enter.Given as goal

abbrev pub invariant-loop-step : goal.invariant-loop-step
invariant-loop-step l = Searching l.fn.seat l.seat l.code l.step l.cell

use Rattle.wide_graph.specs.Search.{Searching}
use Rattle.wide_graph.proofs.entries.add.Given as goal

abbrev pub invariant-loop-step : goal.invariant-loop-step
invariant-loop-step l = Searching l.fn.seat l.seat l.code l.step l.cell

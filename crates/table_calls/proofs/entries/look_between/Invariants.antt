use Rattle.std.specs.Prelude.{◌+◌, ◌-◌, ◌%◌}
use Rattle.table_calls.specs.Search.{Searching}
use Rattle.table_calls.proofs.entries.look_between.Given as goal

abbrev pub invariant-loop-step : goal.invariant-loop-step
invariant-loop-step l = Searching l.fn.seat l.seat l.code l.step ((l.cell + (l.step - l.from)) % l.graph.world.cells)

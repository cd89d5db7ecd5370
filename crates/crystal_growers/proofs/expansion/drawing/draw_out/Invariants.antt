-- All that was drawn is whole, and what was added last waits.
use Rattle.std.proofs.Common.{◌+◌, ◌-◌, [], length}
use Rattle.graph_history.specs.History.{state_of}
use Rattle.crystal_growers.specs.Drawing.{IsEnded}
use Rattle.crystal_growers.specs.Grower.{HasWorked}
use Rattle.crystal_growers.proofs.Waiting.{waiting}
use Rattle.crystal_growers.proofs.expansion.drawing.draw_out.Given as goal

abbrev pub invariant-lists : goal.invariant-lists
invariant-lists l = record {
  works : HasWorked l.graph l.fn.seat l.drawn.seat [] [];
  ended : IsEnded l.graph l.drawn.added.items l.drawn.seat l.drawn.full;
}

abbrev pub decreases-lists : goal.decreases-lists
decreases-lists l = (l.graph.world.cells - length (state_of l.drawn.seat.view.front).vertices) + waiting l.drawn.added.items

-- The open vertices are all that is left to be drawn.
use Rattle.std.proofs.Common.{◌≡◌, ◌≤◌, ◌*◌, ◌-◌}
use Rattle.wide_growth.specs.Rounds.{IsGrowing}
use Rattle.wide_growth.proofs.rounds.grow.Given as goal

abbrev pub invariant-rounds : goal.invariant-rounds
invariant-rounds g l = record {
  growing : IsGrowing l.graph l.seat l.waiting.items l.vertices l.arrows;
  steps : l.steps ≡ l.graph.world.space;
  capacity : l.capacity ≡ l.graph.world.capacity;
  turns : l.turn ≤ l.vertices;
  slight : l.arrows ≤ l.vertices * 8;
}

abbrev pub decreases-rounds : goal.decreases-rounds
decreases-rounds g l = l.capacity - l.vertices

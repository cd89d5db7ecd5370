use Rattle.std.proofs.Common.{◌+◌, ◌-◌}
use Rattle.plain_growth.specs.Growth.{IsFrontier, HasNexts}
use Rattle.plain_growth.specs.Marks.{AreMarks}
use Rattle.plain_growth.proofs.growth.grown.Given as goal

abbrev pub invariant-expanded : goal.invariant-expanded
invariant-expanded l = record {
  frontier : IsFrontier l.world l.at l.growth.found;
  lowered : HasNexts l.world.space l.growth.found l.at l.growth.lowered.items;
  known : AreMarks l.world.space l.growth.found l.growth.known.items;
}

abbrev pub decreases-expanded : goal.decreases-expanded
decreases-expanded l = l.world.cells + 1 - l.at

-- Nothing is drawn yet.
use Rattle.std.proofs.Common.{◌≡◌, [], None}
use Rattle.shared_desk.specs.SharedDesks.{standing_of}
use Rattle.crystal_growers.specs.Expansion.{Expansions}
use Rattle.crystal_growers.proofs.expansion.cells.read_ahead.Given as goal

abbrev pub invariant-cells : goal.invariant-cells
invariant-cells l = record {
  expansions : Expansions (standing_of l.fn.desk) (standing_of l.desk) [] None;
  rank : l.rank ≡ l.fn.desk.seat.view.world.space.cartan.rank;
}

-- The cells so far are drawn and paid for.
use Rattle.std.proofs.Common.{take, None}
use Rattle.shared_desk.specs.SharedDesks.{standing_of}
use Rattle.crystal_growers.specs.Expansion.{Expansions}
use Rattle.crystal_growers.proofs.expansion.cells.expand_all.Given as goal

abbrev pub invariant-cells : goal.invariant-cells
invariant-cells l = Expansions (standing_of l.fn.desk) (standing_of l.desk) (take l.cell-index l.cells) None

-- The first roots are vertices.
use Rattle.std.proofs.Common.{◌≡◌, take, All}
use Rattle.wide_growth.specs.Drawing.{GoesOn}
use Rattle.wide_growth.proofs.Drawn.{IsIn}
use Rattle.wide_growth.proofs.drawing.enter_roots.Given as goal

abbrev pub invariant-roots : goal.invariant-roots
invariant-roots l = record {
  goes : GoesOn l.fn.seat l.seat l.fn.added.items l.added.items;
  entered : All (IsIn l.graph.world.space l.seat.view.front) (take l.root-index l.roots);
  are : l.roots ≡ l.graph.world.roots;
}

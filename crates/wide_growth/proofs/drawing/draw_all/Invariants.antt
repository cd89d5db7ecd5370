-- The first vertices are whole.
use Rattle.std.proofs.Common.{◌≡◌, ◌≤◌, ◌*◌, take, sum_by}
use Rattle.wide_growth.specs.Drawing.{GoesOn, AreWhole, arrows_of}
use Rattle.wide_growth.proofs.drawing.draw_all.Given as goal

abbrev pub invariant-vertices : goal.invariant-vertices
invariant-vertices l = record {
  goes : GoesOn l.fn.seat l.seat l.fn.added.items l.added.items;
  drawn : AreWhole l.graph.world l.seat.view.front (take l.vertex-index l.waiting);
  counted : l.arrows ≡ sum_by (arrows_of l.graph.world.space) (take l.vertex-index l.waiting);
  few : l.arrows ≤ 8 * l.vertex-index;
}

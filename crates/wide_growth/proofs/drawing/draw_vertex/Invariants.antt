-- The arrows of the first indices are drawn.
use Rattle.std.proofs.Common.{◌≡◌}
use Rattle.wide_words.specs.WideSpaces.{whole, number}
use Rattle.wide_growth.specs.Drawing.{GoesOn}
use Rattle.wide_growth.proofs.Counting.{arrows_below}
use Rattle.wide_growth.proofs.Drawn.{AreDrawnTo}
use Rattle.wide_growth.proofs.drawing.draw_vertex.Given as goal

abbrev pub invariant-indices : goal.invariant-indices
invariant-indices l = record {
  goes : GoesOn l.fn.seat l.seat l.fn.added.items l.added.items;
  drawn : AreDrawnTo l.seat.view.front l.vertex.cell l.before;
  counted : l.arrows ≡ arrows_below (whole l.graph.world.space) (number l.graph.world.space l.vertex.code) l.before;
  rank : l.rank ≡ l.graph.world.space.high.cartan.rank;
}

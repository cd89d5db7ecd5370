-- The lowering arrow is drawn first.
use Rattle.std.proofs.Common.{true, false}
use Rattle.wide_growth.proofs.Going.{vertex_later}
use Rattle.wide_growth.proofs.Arrows.{drawn_after}
use Rattle.wide_growth.proofs.drawing.draw_index.Goals as goal

pub draw_arrow-requires-2-clause-there : goal.draw_arrow-requires-2-clause-there
draw_arrow-requires-2-clause-there c =
    vertex_later c.args.graph.now.world c.args.seat.now.view.front c.draw_arrow.new.seat.view.front c.args.vertex c.in_ok-leads.ensures.drawn.goes.front c.requires.there

pub returns-clause-lowering : goal.returns-clause-lowering
returns-clause-lowering c =
    drawn_after c.args.seat.now c.draw_arrow.new.seat c.draw_arrow-2.new.seat c.args.added.now.items c.draw_arrow.new.added.items c.draw_arrow-2.new.added.items c.args.vertex (record { down = true; index = c.args.index }) c.in_ok-leads.leads
    c.in_ok-leads.ensures.drawn c.in_ok-draw_arrow.ensures.drawn.goes

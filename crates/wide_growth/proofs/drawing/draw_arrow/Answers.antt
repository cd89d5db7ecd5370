-- The arrow is drawn already, or it is drawn now.
use Rattle.std.proofs.Common.{◌≡◌, refl, sym, ap, ◌∙◌, false, is_some, Option, Some, None}
use Rattle.graph_history.specs.declared.answer.Look.TheVariants.{Blank, Zero, To}
use Rattle.graph_history.specs.Desks.{look_acts}
use Rattle.graph_rule.specs.Told.{drawn_acts}
use Rattle.wide_growth.specs.Drawing.{IsArrowDrawn}
use Rattle.wide_growth.proofs.Going.{goes_quiet}
use Rattle.wide_growth.proofs.Arrows.{step_here, vertex_there, zero_leads, drawn_already, drawn_now, drawn_before, ok_on}
use Rattle.wide_growth.proofs.drawing.draw_arrow.Goals as goal

pub returns-in-Zero-clause-drawn : goal.returns-in-Zero-clause-drawn
returns-in-Zero-clause-drawn c =
    drawn_already c.args.graph.now c.args.seat.now c.look.new.seat c.args.added.now.items c.args.added.now.items c.requires.ready
    (goes_quiet c.args.seat.now c.look.new.seat (look_acts c.args.vertex.cell c.args.arrow Zero) c.args.seat.now.view.dues c.args.added.now.items c.in-Zero.ensures.table c.in-Zero.ensures.view refl c.requires.ready.idle)
    c.args.vertex c.requires.there c.args.arrow c.in-Zero.ensures.view.known None (sym c.in-Zero.ensures.exact)

pub returns-in-To-clause-drawn : goal.returns-in-To-clause-drawn
returns-in-To-clause-drawn c =
    drawn_already c.args.graph.now c.args.seat.now c.look.new.seat c.args.added.now.items c.args.added.now.items c.requires.ready
    (goes_quiet c.args.seat.now c.look.new.seat (look_acts c.args.vertex.cell c.args.arrow (To c.in-To.cell)) c.args.seat.now.view.dues c.args.added.now.items c.in-To.ensures.table c.in-To.ensures.view refl c.requires.ready.idle)
    c.args.vertex c.requires.there c.args.arrow c.in-To.ensures.view.known (Some c.in-To.cell) (sym c.in-To.ensures.exact)

pub set-requires-clause-target : goal.set-requires-clause-target
set-requires-clause-target c =
    zero_leads c.args.graph.now c.args.seat.now c.look.new.seat c.args.added.now.items c.args.added.now.items c.requires.ready
    (goes_quiet c.args.seat.now c.look.new.seat (look_acts c.args.vertex.cell c.args.arrow Blank) c.args.seat.now.view.dues c.args.added.now.items c.in-Blank.ensures.table c.in-Blank.ensures.view refl c.requires.ready.idle)
    c.args.vertex c.requires.there c.args.arrow
    (sym (step_here c.args.steps.now c.args.graph.now.world.space c.args.reading.now.code c.args.vertex.code c.args.arrow None c.requires.steps c.requires.reading.1 c.in-None.ensures.value))

pub draw_to-requires-clause-there : goal.draw_to-requires-clause-there
draw_to-requires-clause-there c =
    vertex_there c.args.graph.now c.args.seat.now c.look.new.seat c.args.added.now.items c.args.added.now.items c.requires.ready
    (goes_quiet c.args.seat.now c.look.new.seat (look_acts c.args.vertex.cell c.args.arrow Blank) c.args.seat.now.view.dues c.args.added.now.items c.in-Blank.ensures.table c.in-Blank.ensures.view refl c.requires.ready.idle)
    c.args.vertex c.requires.there c.args.arrow

pub returns-in-None-clause-drawn : goal.returns-in-None-clause-drawn
returns-in-None-clause-drawn c =
    let looked = goes_quiet c.args.seat.now c.look.new.seat (look_acts c.args.vertex.cell c.args.arrow Blank) c.args.seat.now.view.dues c.args.added.now.items c.in-Blank.ensures.table c.in-Blank.ensures.view refl c.requires.ready.idle in
    drawn_now c.args.graph.now c.args.seat.now c.look.new.seat c.args.added.now.items c.args.added.now.items c.requires.ready looked c.args.vertex c.requires.there c.args.arrow c.set.new.seat None false
    (goes_quiet c.look.new.seat c.set.new.seat (drawn_acts c.args.vertex.cell c.args.arrow None c.set.result) c.look.new.seat.view.dues c.args.added.now.items c.set.ensures.table c.set.ensures.view refl looked.idle)
    c.set.ensures.drawn
    (ap is_some (step_here c.args.steps.now c.args.graph.now.world.space c.args.reading.now.code c.args.vertex.code c.args.arrow None c.requires.steps c.requires.reading.1 c.in-None.ensures.value))

pub returns-in-Some-clause-drawn : goal.returns-in-Some-clause-drawn
returns-in-Some-clause-drawn c =
    let looked = goes_quiet c.args.seat.now c.look.new.seat (look_acts c.args.vertex.cell c.args.arrow Blank) c.args.seat.now.view.dues c.args.added.now.items c.in-Blank.ensures.table c.in-Blank.ensures.view refl c.requires.ready.idle in
    ok_on c.draw_to.result (λ leads. IsArrowDrawn c.look.new.seat c.draw_to.new.seat c.args.added.now.items c.draw_to.new.added.items c.args.vertex c.args.arrow leads)
    (λ leads. IsArrowDrawn c.args.seat.now c.draw_to.new.seat c.args.added.now.items c.draw_to.new.added.items c.args.vertex c.args.arrow leads)
    (λ leads d. drawn_before c.args.seat.now c.look.new.seat c.draw_to.new.seat c.args.added.now.items c.args.added.now.items c.draw_to.new.added.items c.args.vertex c.args.arrow leads looked d)
    c.draw_to.ensures.drawn

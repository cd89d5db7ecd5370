-- The word was put in, and the arrow drawn from both ends.
use Rattle.std.proofs.Common.{◌≡◌, refl, sym, subst, ap, ◌∙◌, true, is_some, Some}
use Rattle.crystal_cartan.specs.declared.types.Arrow.{Arrow}
use Rattle.graph_history.specs.History.{state_of}
use Rattle.graph_rule.specs.Layout.{LeadsTo}
use Rattle.graph_rule.specs.Told.{drawn_acts}
use Rattle.wide_words.specs.WideHistory.{flat}
use Rattle.wide_growth.proofs.Going.{goes_quiet}
use Rattle.wide_growth.proofs.Arrows.{word_leads, back_leads, drawn_now, drawn_after}
use Rattle.wide_growth.proofs.drawing.draw_to.Goals as goal

pub set-requires-clause-target : goal.set-requires-clause-target
set-requires-clause-target c =
    word_leads c.args.graph.now c.args.seat.now c.enter.new.seat c.args.added.now.items c.enter.new.added.items c.requires.ready c.in-Ok.ensures.goes c.args.vertex c.requires.there c.args.arrow
    c.args.code c.requires.code c.requires.leads c.in-Ok.to c.in-Ok.ensures.there

pub set-requires-in-Ok-clause-target : goal.set-requires-in-Ok-clause-target
set-requires-in-Ok-clause-target c =
    subst (λ (a : Arrow). LeadsTo (flat c.set.new.seat.view.world) (state_of c.set.new.seat.view.front) c.in-Ok.to a (Some c.args.vertex.cell)) (sym c.reversed.ensures)
    (back_leads c.args.graph.now c.args.seat.now c.enter.new.seat c.args.added.now.items c.enter.new.added.items c.requires.ready c.in-Ok.ensures.goes c.args.vertex c.requires.there c.args.arrow
    c.args.code c.requires.code c.requires.leads c.in-Ok.to c.in-Ok.ensures.there c.set.new.seat
    (goes_quiet c.enter.new.seat c.set.new.seat (drawn_acts c.args.vertex.cell c.args.arrow (Some c.in-Ok.to) c.set.result) c.enter.new.seat.view.dues c.enter.new.added.items c.set.ensures.table c.set.ensures.view refl c.in-Ok.ensures.goes.idle)
    c.requires.arrow)

pub returns-in-Ok-clause-drawn : goal.returns-in-Ok-clause-drawn
returns-in-Ok-clause-drawn c =
    let idle = c.in-Ok.ensures.goes.idle in
    let first = goes_quiet c.enter.new.seat c.set.new.seat (drawn_acts c.args.vertex.cell c.args.arrow (Some c.in-Ok.to) c.set.result) c.enter.new.seat.view.dues c.enter.new.added.items c.set.ensures.table c.set.ensures.view refl idle in
    drawn_after c.args.seat.now c.set.new.seat c.set-in-Ok.new.seat c.args.added.now.items c.enter.new.added.items c.enter.new.added.items c.args.vertex c.args.arrow true
    (drawn_now c.args.graph.now c.args.seat.now c.enter.new.seat c.args.added.now.items c.enter.new.added.items c.requires.ready c.in-Ok.ensures.goes c.args.vertex c.requires.there c.args.arrow
    c.set.new.seat (Some c.in-Ok.to) true first c.set.ensures.drawn (sym (ap is_some c.requires.leads)))
    (goes_quiet c.set.new.seat c.set-in-Ok.new.seat (drawn_acts c.in-Ok.to c.reversed.result (Some c.args.vertex.cell) c.set-in-Ok.result) c.set.new.seat.view.dues c.enter.new.added.items c.set-in-Ok.ensures.table c.set-in-Ok.ensures.view refl first.idle)

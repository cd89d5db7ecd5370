-- What is seen drawn stays; else the look comes before the drawing.
use Rattle.std.proofs.Common.{subst, Some, None, [], ◌∷◌}
use Rattle.graph_history.specs.declared.event.Act.TheVariants.{Blank}
use Rattle.graph_history.specs.declared.answer.Look.{Look}
use Rattle.graph_history.specs.declared.answer.Look.TheVariants.{Blank as LooksBlank}
use Rattle.graph_history.specs.Desks.{Does, look_acts}
use Rattle.shared_desk.specs.SharedDesks.{standing_of}
use Rattle.shared_desk.proofs.SharedSteps.{look_quiet}
use Rattle.shared_desk.proofs.Drawings.{vertex_goes}
use Rattle.crystal_growers.proofs.ExpandSteps.{step_run, after_step, arrow_seen, looked_growth}
use Rattle.crystal_growers.proofs.expansion.both_ends.draw_both.Goals as goal

pub glance-requires-clause-there : goal.glance-requires-clause-there
glance-requires-clause-there c = (c.args.code, c.requires.there)

pub draw_blank-requires-clause-there : goal.draw_blank-requires-clause-there
draw_blank-requires-clause-there c =
    let d = subst (λ (l : Look). Does (standing_of c.args.desk.now) (standing_of c.glance.new.self) 0 (look_acts c.args.cell c.args.arrow l)) c.in-Blank.is c.glance.ensures in
    vertex_goes (standing_of c.args.desk.now) (standing_of c.glance.new.self) 0 c.args.cell c.args.code _ d.goes c.requires.there

pub returns-in-Blank : goal.returns-in-Blank
returns-in-Blank c =
    let d = subst (λ (l : Look). Does (standing_of c.args.desk.now) (standing_of c.glance.new.self) 0 (look_acts c.args.cell c.args.arrow l)) c.in-Blank.is c.glance.ensures in
    after_step (standing_of c.args.desk.now) (standing_of c.glance.new.self) (standing_of c.draw_blank.new.desk) c.args.cell c.args.code c.args.arrow (Blank c.args.cell c.args.arrow ∷ []) c.draw_blank.result
    (step_run (standing_of c.args.desk.now) (standing_of c.glance.new.self) c.args.cell c.args.code (Blank c.args.cell c.args.arrow ∷ []) d (looked_growth _ c.args.cell c.args.code c.args.arrow LooksBlank)
    (look_quiet c.args.cell c.args.arrow LooksBlank)) c.draw_blank.ensures

pub returns-in-Zero : goal.returns-in-Zero
returns-in-Zero c =
    arrow_seen (standing_of c.args.desk.now) (standing_of c.glance.new.self) c.args.cell c.args.code c.args.arrow None
    (subst (λ (l : Look). Does (standing_of c.args.desk.now) (standing_of c.glance.new.self) 0 (look_acts c.args.cell c.args.arrow l)) c.in-Zero.is c.glance.ensures)

pub returns-in-To : goal.returns-in-To
returns-in-To c =
    arrow_seen (standing_of c.args.desk.now) (standing_of c.glance.new.self) c.args.cell c.args.code c.args.arrow (Some c.in-To.cell)
    (subst (λ (l : Look). Does (standing_of c.args.desk.now) (standing_of c.glance.new.self) 0 (look_acts c.args.cell c.args.arrow l)) c.in-To.is c.glance.ensures)

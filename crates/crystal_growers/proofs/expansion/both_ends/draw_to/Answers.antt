-- The word is put in, the arrow drawn, and then the arrow back.
use Rattle.std.proofs.Common.{sym, subst, Some}
use Rattle.crystal_cartan.specs.declared.types.Arrow.{Arrow}
use Rattle.graph_history.specs.History.{state_of}
use Rattle.graph_history.specs.Desks.{Does}
use Rattle.graph_rule.specs.Layout.{LeadsTo}
use Rattle.graph_rule.specs.Told.{drawn_acts}
use Rattle.shared_desk.specs.SharedDesks.{standing_of}
use Rattle.shared_desk.proofs.Drawings.{leads_entered}
use Rattle.crystal_growers.proofs.BothEnds.{leads_back, both_drawn, none_drawn}
use Rattle.crystal_growers.proofs.expansion.both_ends.draw_to.Goals as goal

pub mark-requires-clause-target : goal.mark-requires-clause-target
mark-requires-clause-target c = leads_entered c.args.desk.now c.enter.new.self c.args.cell c.args.next c.args._code c.args.arrow c.enter.result c.enter.ensures c.requires.there c.requires.leads c.in-New.to c.in-New.is

pub mark-requires-in-New-clause-target : goal.mark-requires-in-New-clause-target
mark-requires-in-New-clause-target c =
    subst (λ (b : Arrow). LeadsTo c.mark.new.self.seat.view.world (state_of c.mark.new.self.seat.view.front) c.in-New.to b (Some c.args.cell)) (sym c.reversed.ensures)
    (leads_back c.args.desk.now c.enter.new.self c.args.cell c.args.next c.args._code c.args.arrow c.enter.result c.enter.ensures c.requires.there c.requires.arrow c.requires.leads
    c.mark.new.self c.in-New.to c.mark.result c.in-New.is c.mark.ensures c.world-world.ensures.known)

pub returns-in-New : goal.returns-in-New
returns-in-New c =
    let back = subst (λ (b : Arrow). Does (standing_of c.mark.new.self) (standing_of c.mark-in-New.new.self) 0 (drawn_acts c.in-New.to b (Some c.args.cell) c.mark-in-New.result)) c.reversed.ensures c.mark-in-New.ensures in
    both_drawn c.args.desk.now c.enter.new.self c.args.cell c.args.next c.args._code c.args.arrow c.enter.result c.enter.ensures c.requires.there c.requires.arrow c.requires.leads
    c.mark.new.self c.in-New.to c.mark.result c.in-New.is c.mark.ensures c.mark-in-New.new.self c.mark-in-New.result back

pub returns-in-Full : goal.returns-in-Full
returns-in-Full c =
    none_drawn c.args.desk.now c.enter.new.self c.args.cell c.args.next c.args._code c.args.arrow c.enter.result c.enter.ensures c.requires.there c.requires.arrow c.requires.leads c.in-Full.is

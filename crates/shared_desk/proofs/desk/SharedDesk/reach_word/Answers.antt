use Rattle.shared_desk.proofs.Drawings.{leads_entered, drawing_entered, drawing_full}
use Rattle.shared_desk.proofs.desk.SharedDesk.reach_word.Goals as goal

pub mark-requires-clause-target : goal.mark-requires-clause-target
mark-requires-clause-target c = leads_entered c.args.self.now c.enter.new.self c.args.cell c.args.next c.args._code c.args.arrow c.enter.result c.enter.ensures c.requires.there c.requires.leads c.in-New.to c.in-New.is

pub returns-in-Full : goal.returns-in-Full
returns-in-Full c = drawing_full c.args.self.now c.enter.new.self c.args.cell c.args.next c.args._code c.args.arrow c.enter.result c.enter.ensures c.requires.there c.requires.leads c.in-Full.is

pub returns-in-New : goal.returns-in-New
returns-in-New c = drawing_entered c.args.self.now c.enter.new.self c.args.cell c.args.next c.args._code c.args.arrow c.enter.result c.enter.ensures c.requires.there c.requires.leads c.mark.new.self c.in-New.to c.mark.result c.in-New.is c.mark.ensures

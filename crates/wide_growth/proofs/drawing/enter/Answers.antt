use Rattle.wide_growth.proofs.Entering.{entered_old, entered_full}
use Rattle.wide_growth.proofs.drawing.enter.Goals as goal

pub returns-in-Old-clause-goes : goal.returns-in-Old-clause-goes
returns-in-Old-clause-goes c =
    entered_old c.args.graph.now c.args.seat.now c.add.new.seat c.requires.ready c.in-Old.ensures.table c.args.code c.args.origin c.in-Old.cell c.args.added.now.items c.in-Old.ensures.entry

pub returns-in-Full-clause-stop : goal.returns-in-Full-clause-stop
returns-in-Full-clause-stop c =
    entered_full c.args.graph.now c.args.seat.now c.add.new.seat c.requires.ready c.in-Full.ensures.table c.args.code c.args.origin c.in-Full.ensures.entry

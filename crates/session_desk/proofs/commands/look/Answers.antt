use Rattle.session_desk.proofs.Rows.{met_there, look_met, look_absent}
use Rattle.session_desk.proofs.commands.look.Goals as goal

pub look_from-requires-clause-there : goal.look_from-requires-clause-there
look_from-requires-clause-there g c = met_there (g.D.Desk.standing c.args.desk.now) (g.D.Desk.standing c.find.new.self) _ _ c.in-Some.ensures

pub returns-in-None : goal.returns-in-None
returns-in-None g c = look_absent (g.D.Desk.standing c.args.desk.now) (g.D.Desk.standing c.find.new.self) c.args.code c.args.arrow c.in-None.ensures

pub returns-in-Some : goal.returns-in-Some
returns-in-Some g c =
    look_met (g.D.Desk.standing c.args.desk.now) (g.D.Desk.standing c.find.new.self) (g.D.Desk.standing c.look_from.new.desk) _ _ _ _ c.in-Some.ensures c.look_from.ensures

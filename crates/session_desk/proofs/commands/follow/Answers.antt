use Rattle.session_desk.proofs.Rows.{met_there, move_met, move_absent}
use Rattle.session_desk.proofs.commands.follow.Goals as goal

pub follow_from-requires-clause-there : goal.follow_from-requires-clause-there
follow_from-requires-clause-there g c = met_there (g.D.Desk.standing c.args.desk.now) (g.D.Desk.standing c.find.new.self) _ _ c.in-Some.ensures

pub returns-in-None : goal.returns-in-None
returns-in-None g c = move_absent (g.D.Desk.standing c.args.desk.now) (g.D.Desk.standing c.find.new.self) c.args.code c.args.arrow c.in-None.ensures

pub returns-in-Some : goal.returns-in-Some
returns-in-Some g c =
    move_met (g.D.Desk.standing c.args.desk.now) (g.D.Desk.standing c.find.new.self) (g.D.Desk.standing c.follow_from.new.desk) _ _ _ _ c.in-Some.ensures c.follow_from.ensures

use Rattle.std.proofs.Common.{refl, Some}
use Rattle.graph_history.specs.declared.answer.Draw.TheVariants.{To}
use Rattle.session_desk.proofs.Rows.{target_there, move_drawn, move_full, move_zero, move_word}
use Rattle.session_desk.proofs.commands.follow_from.Goals as goal

pub word-requires : goal.word-requires
word-requires g c =
    target_there (g.D.Desk.standing c.args.desk.now) (g.D.Desk.standing c.draw.new.self) c.args.cell c.args.code c.in-To.to 1 c.args.arrow c.in-To.ensures.acts c.requires.there
    c.in-To.ensures.does.goes (move_drawn (g.D.Desk.standing c.args.desk.now) (g.D.Desk.standing c.draw.new.self) c.args.cell c.args.arrow (Some c.in-To.to) (To c.in-To.to) c.in-To.ensures refl)

pub returns-in-Full : goal.returns-in-Full
returns-in-Full g c = move_full (g.D.Desk.standing c.args.desk.now) (g.D.Desk.standing c.draw.new.self) c.args.cell c.args.code c.args.arrow c.requires.there c.in-Full.ensures

pub returns-in-Zero : goal.returns-in-Zero
returns-in-Zero g c = move_zero (g.D.Desk.standing c.args.desk.now) (g.D.Desk.standing c.draw.new.self) c.args.cell c.args.code c.args.arrow c.requires.there c.in-Zero.ensures

pub returns-in-To : goal.returns-in-To
returns-in-To g c =
    move_word (g.D.Desk.standing c.args.desk.now) (g.D.Desk.standing c.draw.new.self) (g.D.Desk.standing c.word.new.self) c.args.cell c.args.code c.in-To.to c.word.result c.args.arrow
    c.requires.there c.in-To.ensures c.word.ensures.goes c.word.ensures.value

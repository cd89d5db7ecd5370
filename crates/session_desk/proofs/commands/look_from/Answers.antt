use Rattle.std.proofs.Common.{[], ◌∷◌, Some}
use Rattle.graph_history.specs.declared.event.Act.TheVariants.{Saw}
use Rattle.session_desk.proofs.Rows.{target_there, look_drawn, look_blank, look_zero, look_word}
use Rattle.session_desk.proofs.commands.look_from.Goals as goal

pub word-requires : goal.word-requires
word-requires g c =
    target_there (g.D.Desk.standing c.args.desk.now) (g.D.Desk.standing c.look.new.self) c.args.cell c.args.code c.in-To.to 0 c.args.arrow (Saw c.args.cell c.args.arrow (Some c.in-To.to) ∷ [])
    c.requires.there c.in-To.ensures.goes (look_drawn (g.D.Desk.standing c.args.desk.now) (g.D.Desk.standing c.look.new.self) c.args.cell c.args.arrow (Some c.in-To.to) c.in-To.ensures)

pub returns-in-Blank : goal.returns-in-Blank
returns-in-Blank g c = look_blank (g.D.Desk.standing c.args.desk.now) (g.D.Desk.standing c.look.new.self) _ c.args.cell c.args.arrow c.in-Blank.ensures

pub returns-in-Zero : goal.returns-in-Zero
returns-in-Zero g c = look_zero (g.D.Desk.standing c.args.desk.now) (g.D.Desk.standing c.look.new.self) c.args.cell c.args.code c.args.arrow c.requires.there c.in-Zero.ensures

pub returns-in-To : goal.returns-in-To
returns-in-To g c =
    look_word (g.D.Desk.standing c.args.desk.now) (g.D.Desk.standing c.look.new.self) (g.D.Desk.standing c.word.new.self) c.args.cell c.args.code c.in-To.to c.word.result c.args.arrow
    c.requires.there c.in-To.ensures c.word.ensures.goes c.word.ensures.value

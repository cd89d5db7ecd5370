use Rattle.std.proofs.Common.{Some, None}
use Rattle.graph_history.proofs.Drawing.{drawn_seen}
use Rattle.graph_history.proofs.plain_desk.PlainDesk.see.Goals as goal

pub returns-in-None : goal.returns-in-None
returns-in-None c = drawn_seen c.args.self.now c.note.new.self c.args.cell c.args.arrow c.args.to None c.note.ensures.value c.in-None.is c.known.ensures.legal c.requires.there

pub returns-in-Some : goal.returns-in-Some
returns-in-Some c = drawn_seen c.args.self.now c.note.new.self c.args.cell c.args.arrow c.args.to (Some c.in-Some.cell) c.note.ensures.value c.in-Some.is c.known.ensures.legal c.requires.there

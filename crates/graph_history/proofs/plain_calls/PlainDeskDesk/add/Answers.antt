use Rattle.graph_history.proofs.Drawing.{entering}
use Rattle.graph_history.proofs.plain_calls.PlainDeskDesk.add.Goals as goal

pub returns : goal.returns
returns c = entering c.args.self.now c.use_up.new.self _ _ _ _ c.use_up.ensures c.requires.room c.enter-answer.ensures c.known-2.ensures.legal

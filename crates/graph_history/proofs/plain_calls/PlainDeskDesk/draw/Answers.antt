use Rattle.graph_history.proofs.Drawing.{drawing}
use Rattle.graph_history.proofs.plain_calls.PlainDeskDesk.draw.Goals as goal

pub returns : goal.returns
returns c = drawing c.args.self.now c.use_up.new.self _ _ _ _ c.use_up.ensures c.requires.room c.reach.ensures

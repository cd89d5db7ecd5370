use Rattle.graph_rule.proofs.Composing.{watched_none}
use Rattle.table_calls.proofs.Entering.{confirmed_at}
use Rattle.table_calls.proofs.entries.stands_at.Goals as goal

pub returns-then-cell-cells-clause-told : goal.returns-then-cell-cells-clause-told
returns-then-cell-cells-clause-told c = watched_none c.args.seat.now.view

pub returns-clause-told : goal.returns-clause-told
returns-clause-told c = confirmed_at c.args.seat.now.view c.confirm.new.seat.view c.args.cell c.args.code c.confirm.result c.confirm.ensures.view

use Rattle.std.proofs.Common.{[]}
use Rattle.graph_history.proofs.OwnActs as own
use Rattle.table_tests.proofs.tests.histories.look.Goals as goal

pub look-requires-clause-there : goal.look-requires-clause-there
look-requires-clause-there c = (c.args.code, own.met_there _ _ _ _ [] c.in_ok-cell.cell c.args.code [] c.in_ok-cell.ensures.goes.grows)

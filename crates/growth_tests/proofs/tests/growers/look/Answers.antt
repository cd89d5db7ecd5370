use Rattle.growth_tests.proofs.Entering.{entered_at}
use Rattle.growth_tests.proofs.tests.growers.look.Goals as goal

pub look-requires-clause-there : goal.look-requires-clause-there
look-requires-clause-there c = (c.args.code, entered_at _ _ c.args.code c.in-New.cell c.add.result c.in-New.is c.add.ensures)

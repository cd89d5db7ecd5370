use Rattle.growth_tests.proofs.Entering.{entered_at}
use Rattle.growth_tests.proofs.tests.growers.expand_root.Goals as goal

pub expand-requires-clause-there : goal.expand-requires-clause-there
expand-requires-clause-there c = (c.args.code, entered_at _ _ c.args.code c.in-New.cell c.add.result c.in-New.is c.add.ensures)

use Rattle.growth_tests.proofs.Entering.{entered_at}
use Rattle.growth_tests.proofs.tests.growers.draw.Goals as goal

pub draw-requires-clause-there : goal.draw-requires-clause-there
draw-requires-clause-there c = (c.args.code, entered_at _ _ c.args.code c.in-New.cell c.add.result c.in-New.is c.add.ensures)

use Rattle.tableau_reading.proofs.Boxes.{height-count}
use Rattle.tableau_reading.proofs.shapes.Shape.height.Goals as goal

pub returns-clause-height : goal.returns-clause-height
returns-clause-height c = rw (c.count_longer.ensures.count, c.lengths.ensures.lengths) (height-count c.args.self.now.rows c.args.column)

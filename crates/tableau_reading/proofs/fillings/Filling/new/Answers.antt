use Rattle.tableau_reading.proofs.Rows.{few_boxes}
use Rattle.tableau_reading.proofs.FilledRows.{ones_are_letters, ones_listed}
use Rattle.tableau_reading.specs.Shapes.{box_count}
use Rattle.tableau_reading.proofs.fillings.Filling.new.Goals as goal

pub invariant_of-result : goal.invariant_of-result
invariant_of-result c =
    let s = c.args.shape.now in
    ones_are_letters s.cartan (box_count s) c.cartan.ensures.shape.cartan (few_boxes s.cartan (box_count s) c.cartan.ensures.shape.small)

pub returns : goal.returns
returns c = ones_listed c.args.shape.now c.cartan.ensures.shape

use Rattle.std.proofs.Common.{◌∙◌, sym, ap, get_or}
use Rattle.tableau_reading.specs.Shapes.{box_count}
use Rattle.tableau_reading.specs.Readings.{box, boxes}
use Rattle.tableau_reading.proofs.Boxes.{length-boxes}
use Rattle.tableau_reading.proofs.Orders.{get_or-listed}
use Rattle.tableau_reading.proofs.shapes.Shape.box_at.Goals as goal

pub returns-clause-there : goal.returns-clause-there
returns-clause-there c =
    let s = c.args.self.now in
    get_or-listed s.order (boxes s.rows) (box_count s) c.args.place (box 0 0) (length-boxes s.rows c.from_end.ensures.shape.falling) c.requires
    ∙ (ap (λ k. get_or (boxes c.args.self.now.rows) k (box 0 0)) (sym c.from_end.ensures.place) ∙ c.box_in_columns.ensures.there)

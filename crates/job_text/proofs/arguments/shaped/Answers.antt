use Rattle.std.proofs.Common.{◌≡◌, ◌∙◌, sym, Ok}
use Rattle.tableau_reading.specs.Shapes.{shape_of}
use Rattle.job_text.proofs.ShapeTypes.{type_stays}
use Rattle.job_text.proofs.arguments.shaped.Goals as goal

pub returns-in-Ok-clause-cartan : goal.returns-in-Ok-clause-cartan
returns-in-Ok-clause-cartan c =
    let is : shape_of c.args.cartan c.as_slice.result.now ≡ Ok c.in-Ok.shape = sym c.new.ensures.exact ∙ c.in-Ok.is in
    rw c.ordered.ensures (type_stays c.args.cartan c.as_slice.result.now c.in-Ok.shape is)

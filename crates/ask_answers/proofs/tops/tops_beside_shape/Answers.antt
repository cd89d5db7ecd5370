use Rattle.std.proofs.Common.{sym}
use Rattle.ask_answers.proofs.ShapeWeights.{shape_pairings, shape_dominant}
use Rattle.ask_answers.proofs.tops.tops_beside_shape.Goals as goal

pub product_tops-requires-clause-whole : goal.product_tops-requires-clause-whole
product_tops-requires-clause-whole c = rw (c.weight.ensures.weight, sym c.requires) (shape_pairings c.args.shape.now c.weight.ensures.shape)

pub product_tops-requires-clause-dominant : goal.product_tops-requires-clause-dominant
product_tops-requires-clause-dominant c = rw (c.weight.ensures.weight, sym c.requires) (shape_dominant c.args.shape.now c.weight.ensures.shape)

use Rattle.spin_crystals.specs.Signs.{vector_of}
use Rattle.spin_crystals.proofs.Lowering.{size_of}
use Rattle.spin_crystals.proofs.VectorLaws.{vector_seminormal}
use Rattle.spin_crystals.proofs.laws.spin_laws.Goals as goal

pub returns : goal.returns
returns c =
    vector_seminormal c.args.cartan c.args.i (vector_of c.args.x) c.rank-rank.ensures.classical c.requires.kind c.requires.index
    (size_of c.args.cartan c.args.x c.requires.element)

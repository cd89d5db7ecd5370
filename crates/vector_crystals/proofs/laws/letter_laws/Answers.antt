use Rattle.vector_crystals.proofs.Seminormal.{letter_seminormal}
use Rattle.vector_crystals.proofs.laws.letter_laws.Goals as goal

pub returns : goal.returns
returns c = letter_seminormal c.args.cartan c.args.i c.args.x.0 c.rank-rank.ensures.classical c.requires.index c.requires.letter

use Rattle.std.proofs.Common.{sym}
use Rattle.spin_crystals.proofs.Lowering.{eps_read}
use Rattle.spin_crystals.proofs.operators.eps.Goals as goal

pub returns-clause-value : goal.returns-clause-value
returns-clause-value c =
    rw c.signs_of.ensures (sym (eps_read c.args.cartan c.args.i c.args.x c.new-turn.result c.new-turn.ensures.value c.new-turn.ensures.classical c.requires.kind c.requires.index c.requires.element))

use Rattle.crystal_shell.proofs.Unspent.{answered_is_unspent}
use Rattle.crystal_shell.proofs.laws.answered_is_unspent.Goals as goal

pub returns : goal.returns
returns c = answered_is_unspent

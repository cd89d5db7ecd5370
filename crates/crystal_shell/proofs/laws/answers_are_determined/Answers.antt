use Rattle.crystal_shell.proofs.Determined.{answers_are_determined}
use Rattle.crystal_shell.proofs.laws.answers_are_determined.Goals as goal

pub returns : goal.returns
returns c = answers_are_determined

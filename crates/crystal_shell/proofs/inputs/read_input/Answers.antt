use Rattle.crystal_shell.proofs.Texts.{long_input}
use Rattle.crystal_shell.proofs.inputs.read_input.Goals as goal

pub returns-in-Err-TooLong-clause-judged : goal.returns-in-Err-TooLong-clause-judged
returns-in-Err-TooLong-clause-judged g c = rw c.number.ensures (long_input (g.R.Source.left c.args.source.now) (c.read_all.ensures.long (cc)))

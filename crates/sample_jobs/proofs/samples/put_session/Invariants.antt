use Rattle.sample_jobs.proofs.Writing.{IsSessionTo}
use Rattle.sample_jobs.proofs.samples.put_session.Given as goal

abbrev pub invariant-commands : goal.invariant-commands
invariant-commands l = IsSessionTo l.space l.start l.before l.fn.text.items l.text.items l.word l.number l.counter

use Rattle.sample_jobs.proofs.Writing.{IsSampleTo}
use Rattle.sample_jobs.proofs.samples.sample_text.Given as goal

abbrev pub invariant-sessions : goal.invariant-sessions
invariant-sessions l = IsSampleTo l.fn.number l.text.items l.last l.counter

use Rattle.sample_jobs.proofs.Jobs.{samples_judged, samples_short}
use Rattle.sample_jobs.proofs.samples.samples_are_jobs.Goals as goal

pub returns-clause-jobs : goal.returns-clause-jobs
returns-clause-jobs c = samples_judged

pub returns-clause-short : goal.returns-clause-short
returns-clause-short c = samples_short

use Rattle.std.proofs.Common.{◌≡◌, ◌∙◌, ◌≤◌, ℕ, List, length, sym, subst}
use Rattle.job_text.specs.Jobs.{most_job_bytes}
use Rattle.sample_jobs.specs.Samples.{sample}
use Rattle.sample_jobs.proofs.Jobs.{samples_short}
use Rattle.sample_jobs.proofs.Writing.{sample_ok, sample_read}
use Rattle.sample_jobs.proofs.samples.sample_job.Goals as goal

pub sure_job-requires-clause-short : goal.sure_job-requires-clause-short
sure_job-requires-clause-short c =
    let is : c.as_slice.result.now ≡ sample c.args.number = c.as_slice.ensures.value ∙ c.in_ok-text.ensures in
    subst (λ (bytes : List ℕ). length bytes ≤ most_job_bytes) (sym is) (samples_short c.args.number)

pub sure_job-requires-clause-judged : goal.sure_job-requires-clause-judged
sure_job-requires-clause-judged c = sample_ok c.args.number c.as_slice.result.now (c.as_slice.ensures.value ∙ c.in_ok-text.ensures)

pub returns-clause-sample : goal.returns-clause-sample
returns-clause-sample c =
    sample_read c.args.number c.as_slice.result.now c.sure_job.result (c.as_slice.ensures.value ∙ c.in_ok-text.ensures) c.sure_job.ensures.told

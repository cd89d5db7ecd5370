-- Under `match` the program tells whether the components of a job's first two starts are the same crystal with the one start beside
-- the other, or else by which arrows first they differ; and `full`, with the status 3, exactly where more pairs have to be tried
-- than the job has cells.
use Rattle.std.specs.Prelude.{ℕ, ◌<◌, ◌≤◌, List, length, slice_index, Some, None}
use Rattle.crystal_cartan.specs.Types.{CartanType}
use Rattle.job_text.specs.declared.faults.JobWhy.TheVariants.{FewStarts}
use Rattle.job_text.specs.Faults.{why_number}
use Rattle.job_text.specs.declared.jobs.Job.{Job}
use Rattle.crystal_match.specs.Matching.{IsVerdict, PairsOutnumber}
use Rattle.crystal_match.specs.declared.comparing.Verdict.{Verdict}
use Rattle.crystal_match.specs.Relabelling.{RelabelType, kept, starred}
use Rattle.crystal_match.specs.Telling.{PointedType, pointed}
use Rattle.command_words.specs.declared.settings.Relabelling.{Relabelling}
use Rattle.command_words.specs.declared.settings.Relabelling.TheVariants.{Same, Star}
use Rattle.answer_text.specs.Texts.{job_refusal}
use Rattle.answer_text.specs.Answers.{match_text, verdict_line}
use Rattle.crystal_shell.specs.declared.inputs.Input.{Input}
use Rattle.crystal_shell.specs.declared.inputs.Input.TheVariants.{Refused, Taken}
use Rattle.crystal_shell.specs.declared.outcomes.Status.{Status}
use Rattle.crystal_shell.specs.declared.outcomes.Status.TheVariants.{Done, JobRefused, Full}

abbrev pub relabel_of : CartanType → Relabelling → RelabelType
relabel_of t Same = kept t
relabel_of t Star = starred t

-- the first start of a job against the second
abbrev pub marked : Relabelling → Job → PointedType
marked r job = pointed job.world.space (slice_index job.starts 0) (slice_index job.starts 1) (relabel_of job.world.space.cartan r)

-- the status and the text that an input calls for; a job with fewer than two starts is refused as `FewStarts`, and
-- the job's cells are the most pairs
pub data CallsForMatch (r : Relabelling) : Input → Status → List ℕ → Type 0 where
  match_refused : (line fault : ℕ) → CallsForMatch r (Refused line fault) JobRefused (job_refusal line fault)
  match_few : (job : Job) → length job.starts < 2 → CallsForMatch r (Taken job) JobRefused (job_refusal 0 (why_number FewStarts))
  match_verdict : (job : Job) (verdict : Verdict) → 2 ≤ length job.starts → IsVerdict (marked r job) verdict
      → (PairsOutnumber (marked r job) job.world.cells → ⊥) → CallsForMatch r (Taken job) Done (match_text job.world.space.cartan (verdict_line (Some verdict)))
  match_full : (job : Job) → 2 ≤ length job.starts → PairsOutnumber (marked r job) job.world.cells
      → CallsForMatch r (Taken job) Full (match_text job.world.space.cartan (verdict_line None))

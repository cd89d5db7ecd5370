use Rattle.std.proofs.Common.{◌≡◌, ◌+◌, ◌≤◌, length}
use Rattle.text_pieces.specs.Pieces.{pieces}
use Rattle.job_text.specs.Jobs.{most_job_bytes}
use Rattle.job_text.specs.Judge.{judged_from, judge}
use Rattle.job_text.proofs.jobs.read_job.Given as goal

abbrev pub invariant-lines : goal.invariant-lines
invariant-lines l = record {
  same : judged_from l.line l.stage (pieces 10 l.rest) ≡ judge l.bytes;
  few : l.line + length l.rest ≤ length l.bytes + 1;
  short : length l.bytes ≤ most_job_bytes;
}

abbrev pub decreases-lines : goal.decreases-lines
decreases-lines l = length l.rest

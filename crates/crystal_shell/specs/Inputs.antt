-- What a source has, and what that says.
use Rattle.std.specs.Prelude.{ℕ, ◌+◌, ◌<◌, ◌≤◌, ◌≡◌, nat_lt, if◌then◌else◌, List, length, Option, Some, None, IfSome, Result, Ok, Err}
use Rattle.std.specs.Io.KnownBytes.{IsAtEnd}
use Rattle.crystal_streams.specs.Reads.{TakesExactly}
use Rattle.job_text.specs.Faults.{Refusal, why_number}
use Rattle.job_text.specs.Jobs.{IsJob, most_job_bytes}
use Rattle.job_text.specs.Judge.{judge}
use Rattle.job_text.specs.declared.faults.JobWhy.TheVariants.{TooLong}
use Rattle.job_text.specs.declared.jobs.Job.{Job}
use Rattle.crystal_shell.specs.declared.inputs.Input.{Input}
use Rattle.crystal_shell.specs.declared.inputs.Input.TheVariants.{Refused, Taken}

-- an input is what the source had left, where the source tells that; else it may be any
abbrev pub IsInput : Option (List ℕ) → List ℕ → Type 0
IsInput None input = Unit {0}
IsInput (Some left) input = left ≡ input

-- a judged text: its job, or the line and the number of its first fault
abbrev pub by_number : Result Job Refusal → Input
by_number (Ok job) = Taken job
by_number (Err r) = Refused r.line (why_number r.why)

-- what an input says: one that is too long is refused as `TooLong`, at no line, whatever its bytes are
abbrev pub judged_input : List ℕ → Input
judged_input input = if nat_lt most_job_bytes (length input) then Refused 0 (why_number TooLong) else by_number (judge input)

-- a job that is taken is one that a text can give
abbrev pub IsLawful : Input → Type 0
IsLawful (Refused line fault) = Unit {0}
IsLawful (Taken job) = IsJob job

-- the source is read to its end, or to one byte more than a job may have
abbrev pub ReadsJob : Option (List ℕ) → Option (List ℕ) → Type 0
ReadsJob before after =
    IfSome before (λ input. (length input ≤ most_job_bytes → IsAtEnd after)
    × (most_job_bytes < length input → TakesExactly (most_job_bytes + 1) before after))

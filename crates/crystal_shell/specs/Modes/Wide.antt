-- Under `wide` the program tells how many words of two words of a job's space, one after the other, are reached from the
-- first start twice, and how many f arrows at them are not zero; and `full`, with the status 3, exactly where more words are
-- reached than the job has cells.
use Rattle.std.specs.Prelude.{ℕ, List, [], ◌∷◌, slice_index}
use Rattle.tensor_words.specs.Reach.{Outnumber}
use Rattle.job_text.specs.declared.jobs.Job.{Job}
use Rattle.wide_words.specs.WideHistory.{WideWorldType, counted}
use Rattle.wide_words.specs.WideCounts.{AreReached}
use Rattle.answer_text.specs.Texts.{full_line, job_refusal}
use Rattle.answer_text.specs.Modes.{wide_line}
use Rattle.answer_text.specs.Answers.{wide_text}
use Rattle.crystal_shell.specs.declared.inputs.Input.{Input}
use Rattle.crystal_shell.specs.declared.inputs.Input.TheVariants.{Refused, Taken}
use Rattle.crystal_shell.specs.declared.outcomes.Status.{Status}
use Rattle.crystal_shell.specs.declared.outcomes.Status.TheVariants.{Done, JobRefused, Full}

-- a job doubled: its space is both halves, its first start twice is the one root, and its cells are the capacity
abbrev pub doubled : Job → WideWorldType
doubled job =
    let start = slice_index job.starts 0 in
    record {
      space = record { high = job.world.space; low = job.world.space };
      capacity = job.world.cells;
      roots = record { high = start; low = start } ∷ [];
    }

-- the status and the text that an input calls for
pub data CallsForWide : Input → Status → List ℕ → Type 0 where
  -- a refused job is answered by its line and fault alone
  wide_refused : (line fault : ℕ) → CallsForWide (Refused line fault) JobRefused (job_refusal line fault)
  -- the reached words do not outnumber the cells, and are told with their arrows by their numbers
  wide_closed : (job : Job) (vertices arrows : ℕ) → AreReached (counted (doubled job)) vertices arrows → (Outnumber (counted (doubled job)) → ⊥)
      → CallsForWide (Taken job) Done (wide_text job.world.space.cartan (wide_line vertices arrows))
  -- they do
  wide_full : (job : Job) → Outnumber (counted (doubled job)) → CallsForWide (Taken job) Full (wide_text job.world.space.cartan full_line)

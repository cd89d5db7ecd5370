-- Under `sample` the program grows the job that the sample of a number is, and writes the sizes of its crystal; and `full`, with
-- the status 3, exactly where more words are reached than the job has cells.
use Rattle.std.specs.Prelude.{ℕ, ◌≡◌, List, Option, Some, None, Ok}
use Rattle.canonical_graph.specs.Graphs.{FinishedType}
use Rattle.graph_history.specs.declared.event.Event.{Event}
use Rattle.job_text.specs.Judge.{judge}
use Rattle.sample_jobs.specs.Samples.{sample}
use Rattle.job_text.specs.declared.jobs.Job.{Job}
use Rattle.session_desk.specs.declared.reply.Reply.{Reply}
use Rattle.answer_text.specs.Texts.{graph_head, full_line}
use Rattle.answer_text.specs.Answers.{sample_answer}
use Rattle.graph_runs.specs.declared.run.Held.{Held}
use Rattle.crystal_shell.specs.Modes.Grow.{IsRunOf}
use Rattle.crystal_shell.specs.declared.outcomes.Status.{Status}
use Rattle.crystal_shell.specs.declared.outcomes.Status.TheVariants.{Done, Full}

-- the status of a run that ended in this graph, or in none
abbrev pub run_status : Option FinishedType → Status
run_status (Some f) = Done
run_status None = Full

-- the status, the history, the graph with its one seat, and the text that the number of a sample calls for: those of a run
-- of the job that the sample with this number is judged to be, of which the text has no more than the sizes
pub data CallsForSample (number : ℕ) : Status → List Event → Option Held → List ℕ → Type 0 where
  sample_whole : (job : Job) (f : FinishedType) (front : List Event) (held : Held) (told : List (List Reply)) → judge (sample number) ≡ Ok job
      → IsRunOf job (Some f) front held told → CallsForSample number Done front (Some held) (sample_answer number job.world.space.cartan 4 256 (graph_head f))
  sample_full : (job : Job) (front : List Event) (held : Held) (told : List (List Reply)) → judge (sample number) ≡ Ok job
      → IsRunOf job None front held told → CallsForSample number Full front (Some held) (sample_answer number job.world.space.cartan 4 256 full_line)

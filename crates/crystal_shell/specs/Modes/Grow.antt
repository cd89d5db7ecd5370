-- Under `grow` the program writes what the sessions of a job were told, the crystal that is reached from its roots, the reports
-- of the chosen statistics and the answers to the job's asks; and `full`, with the status 3, exactly where more words are reached
-- than the job has cells.
use Rattle.std.specs.Prelude.{ℕ, List, [], slice_index, Option, Some, None}
use Rattle.canonical_graph.specs.Graphs.{FinishedType}
use Rattle.graph_history.specs.declared.event.Event.{Event}
use Rattle.job_text.specs.declared.jobs.Job.{Job}
use Rattle.session_desk.specs.declared.reply.Reply.{Reply}
use Rattle.crystal_characters.specs.Items.{items_of}
use Rattle.ask_answers.specs.Answers.{AreAnswers}
use Rattle.answer_text.specs.Texts.{job_refusal}
use Rattle.answer_text.specs.Answers.{asks_text, whole_text, full_text}
use Rattle.ask_answers.specs.declared.values.AskAnswer.{AskAnswer}
use Rattle.graph_runs.specs.Runs.{EndsRun, Holds, IsHistory}
use Rattle.graph_runs.specs.declared.run.Held.{Held}
use Rattle.crystal_shell.specs.Statistics.{Reporter, statistics_text}
use Rattle.crystal_shell.specs.declared.inputs.Input.{Input}
use Rattle.crystal_shell.specs.declared.inputs.Input.TheVariants.{Refused, Taken}
use Rattle.crystal_shell.specs.declared.outcomes.Status.{Status}
use Rattle.crystal_shell.specs.declared.outcomes.Status.TheVariants.{Done, JobRefused, Full}

-- a run of a job: this is a history of it in which its sessions were told this, it ended in this graph, or in none where some
-- word found no cell, and it is that of the held seat
pub record IsRunOf (job : Job) (graph : Option FinishedType) (front : List Event) (held : Held) (told : List (List Reply)) : Type 0 where
  pub history : IsHistory job.world job.starts job.scripts front told
  pub ends : EndsRun job.world front graph
  pub holds : Holds job.world held.graph held.seat front

-- the status, the history, the graph with its one seat, and the text that an input calls for, where the statistics at
-- these places are chosen
pub data CallsForGraph (reporters : List Reporter) (places : List ℕ) : Input → Status → List Event → Option Held → List ℕ → Type 0 where
  -- a refused job is answered by its line and fault alone
  grow_refused : (line fault : ℕ) → CallsForGraph reporters places (Refused line fault) JobRefused [] None (job_refusal line fault)
  -- a job whose graph is finished: there is one run of it; the text has its replies, the graph of its vertices, the
  -- statistics and the answers to the asks
  grow_whole : (job : Job) (f : FinishedType) (front : List Event) (held : Held) (told : List (List Reply)) (answers : List AskAnswer)
      → IsRunOf job (Some f) front held told → AreAnswers f (slice_index job.starts 0) job.asks answers
      → CallsForGraph reporters places (Taken job) Done front (Some held) (whole_text f told (statistics_text reporters places (items_of f)) (asks_text f answers))
  -- a job with more reached words than cells: there is one run of it; the text has its replies, and `full`
  grow_full : (job : Job) (front : List Event) (held : Held) (told : List (List Reply)) → IsRunOf job None front held told
      → CallsForGraph reporters places (Taken job) Full front (Some held) (full_text job.world.space told)

-- A run of the program, from bytes to bytes: `IsRun` is the whole promise of `run`.
use Rattle.std.specs.Prelude.{ℕ, ◌+◌, ◌≤◌, ◌≡◌, ◌≢◌, ◌⊎◌, true, false, List, [], take, Option, None, Result}
use Rattle.std.specs.Io.KnownBytes.{Appends, Keeps}
use Rattle.crystal_streams.specs.Faults.{Rose}
use Rattle.crystal_streams.specs.Reads.{TakesAtMost}
use Rattle.graph_history.specs.declared.event.Event.{Event}
use Rattle.graph_runs.specs.declared.run.Held.{Held}
use Rattle.job_text.specs.Jobs.{most_job_bytes}
use Rattle.command_words.specs.Judge.{judge_words}
use Rattle.command_words.specs.declared.fault.WordsFault.{WordsFault}
use Rattle.command_words.specs.declared.settings.Settings.{Settings}
use Rattle.crystal_shell.specs.Statistics.{Reporter, names_of}
use Rattle.crystal_shell.specs.Inputs.{IsInput, ReadsJob}
use Rattle.crystal_shell.specs.Modes.{CallsFor, asks_for_job}
use Rattle.crystal_shell.specs.Statuses.{status_number}
use Rattle.crystal_shell.specs.declared.outcomes.Outcome.{Outcome}
use Rattle.crystal_shell.specs.declared.outcomes.Status.{Status}

-- judged words and some input call for this status, this history, this held graph and this text, and the input is what the
-- source had left, where it tells that
pub record Called (reporters : List Reporter) (judged : Result Settings WordsFault) (left : Option (List ℕ)) (status : Status) (front : List Event) (held : Option Held) (text : List ℕ) : Type 0 where
  pub input : List ℕ
  pub had : IsInput left input
  pub called_for : CallsFor reporters input judged status front held text

-- what was read of a source, of which contracts see what it has left and how many of its reads failed, in a call that may
-- have come to nothing by a fault of a read
pub record HasRead {S : Type 0} (left : S → Option (List ℕ)) (faults : S → ℕ) (judged : Result Settings WordsFault) (before after : S) (done failed : Type 0) : Type 0 where
  -- a source is left alone where the words ask for no job that is read
  pub alone : asks_for_job judged ≡ false → after ≡ before
  -- else it is read to its end, or to one byte more than a job may have
  pub whole : asks_for_job judged ≡ true → done → ReadsJob (left before) (left after)
  -- no more is taken than that, whatever happens
  pub most : TakesAtMost (most_job_bytes + 1) (left before) (left after)
  -- a fault of a read comes only where one was asked for and failed
  pub fault : failed → (asks_for_job judged ≡ true) × Rose (faults before) (faults after)
  -- the count of failed reads never falls
  pub later : faults before ≤ faults after

-- a run with these statistics and command words, over a source and a sink, of which contracts see what they have left and
-- what they hold, and how many of their reads and writes failed
pub record IsRun {S K : Type 0} (left : S → Option (List ℕ)) (read_faults : S → ℕ) (kept : K → Option (List ℕ)) (write_faults : K → ℕ)
    (reporters : List Reporter) (words : List (List ℕ)) (source source' : S) (sink sink' : K) (outcome : Outcome) : Type 0 where
  -- under the status 0 to 3 the whole text was written that the words and some input call for, with this status, this
  -- history and this held graph
  pub written : outcome.status ≤ 3 → (status : Status) × (text : List ℕ) × (outcome.status ≡ status_number status)
      × Called reporters (judge_words words (names_of reporters)) (left source) status outcome.front outcome.held text × Appends (kept sink) (kept sink') text
  -- under 5 a write failed, and a beginning of such a text was written
  pub cut : outcome.status ≡ 5 → Rose (write_faults sink) (write_faults sink')
      × (status : Status) × (text : List ℕ) × (n : ℕ)
      × Called reporters (judge_words words (names_of reporters)) (left source) status outcome.front outcome.held text × Appends (kept sink) (kept sink') (take n text)
  -- under 4, where a read failed, and under 6, which any run may answer for want of memory, nothing was written, the
  -- history is empty, and nothing is held
  pub unwritten : (outcome.status ≡ 4) ⊎ (outcome.status ≡ 6) → Keeps (kept sink) (kept sink') × (outcome.front ≡ []) × (outcome.held ≡ None)
  -- there is no other status
  pub statuses : outcome.status ≤ 6
  -- the source was read as the words ask for
  pub read : HasRead left read_faults (judge_words words (names_of reporters)) source source'
      ((outcome.status ≢ 4) × (outcome.status ≢ 6)) (outcome.status ≡ 4)
  -- the count of failed writes never falls
  pub later : write_faults sink ≤ write_faults sink'

-- how the writing of an answer with this status and this text ended: with the status, and the text was written whole, or
-- with 5, a write failed, and a beginning of the text was written
abbrev pub IsWritten : Option (List ℕ) → Option (List ℕ) → ℕ → ℕ → Status → List ℕ → ℕ → Type 0
IsWritten taken taken' faults faults' status text ended =
    ((ended ≡ status_number status) × Appends taken taken' text)
    ⊎ ((ended ≡ 5) × Rose faults faults' × (n : ℕ) × Appends taken taken' (take n text))

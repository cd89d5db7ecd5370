-- Laws of what the command words and the input call for.
use Rattle.std.specs.Prelude.{ℕ, ◌≡◌, List, Option, Result, Contains}
use Rattle.command_words.specs.declared.fault.WordsFault.{WordsFault}
use Rattle.command_words.specs.declared.settings.Settings.{Settings}
use Rattle.graph_history.specs.declared.event.Act.TheVariants.{Spent}
use Rattle.graph_history.specs.declared.event.Event.{Event}
use Rattle.graph_runs.specs.declared.run.Held.{Held}
use Rattle.crystal_shell.specs.Statistics.{Reporter}
use Rattle.crystal_shell.specs.Modes.{CallsFor}
use Rattle.crystal_shell.specs.declared.outcomes.Status.{Status}
use Rattle.crystal_shell.specs.declared.outcomes.Status.TheVariants.{Done}

-- the status is determined by the judged command words and the input, and the text by these and the history
abbrev pub AnswersAreDetermined : Type 0
AnswersAreDetermined =
    (reporters : List Reporter) (input : List ℕ) (judged : Result Settings WordsFault) (status status' : Status) (front front' : List Event) (held held' : Option Held) (text text' : List ℕ) →
    CallsFor reporters input judged status front held text → CallsFor reporters input judged status' front' held' text' →
    (status ≡ status') × (front ≡ front' → text ≡ text')

-- under the status 0 every word that was asked for found a cell: no event of the history is a `Spent`
abbrev pub AnsweredIsUnspent : Type 0
AnsweredIsUnspent =
    (reporters : List Reporter) (input : List ℕ) (judged : Result Settings WordsFault) (front : List Event) (held : Option Held) (text : List ℕ) (n x : ℕ) →
    CallsFor reporters input judged Done front held text → Contains front (record { caller = n; act = Spent x }) → ⊥

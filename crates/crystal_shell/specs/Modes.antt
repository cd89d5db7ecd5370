-- What the command words and the input call for: `CallsFor` has a case for each mode, and the file of the mode, under Modes/,
-- says what the mode calls for.
pub mod Grow
pub mod Sample
pub mod Census
pub mod Match
pub mod Wide
use Rattle.std.specs.Prelude.{ℕ, ◌≡◌, Bool, true, false, List, [], Option, Some, None, Result, Ok, Err}
use Rattle.tableau_reading.specs.Shapes.{ShapeType}
use Rattle.graph_history.specs.declared.event.Event.{Event}
use Rattle.graph_runs.specs.declared.run.Held.{Held}
use Rattle.command_words.specs.Fault.{fault_number}
use Rattle.command_words.specs.declared.fault.WordsFault.{WordsFault}
use Rattle.command_words.specs.declared.settings.Relabelling.{Relabelling}
use Rattle.command_words.specs.declared.settings.Settings.{Settings}
use Rattle.command_words.specs.declared.settings.Settings.TheVariants as setting
use Rattle.answer_text.specs.Texts.{words_refusal}
use Rattle.crystal_shell.specs.Statistics.{Reporter}
use Rattle.crystal_shell.specs.Inputs.{judged_input}
use Rattle.crystal_shell.specs.Modes.Grow.{CallsForGraph}
use Rattle.crystal_shell.specs.Modes.Sample.{CallsForSample}
use Rattle.crystal_shell.specs.Modes.Census.{CallsForCensus}
use Rattle.crystal_shell.specs.Modes.Match.{CallsForMatch}
use Rattle.crystal_shell.specs.Modes.Wide.{CallsForWide}
use Rattle.crystal_shell.specs.declared.outcomes.Status.{Status}
use Rattle.crystal_shell.specs.declared.outcomes.Status.TheVariants.{WordsRefused}

-- whether judged words ask for a job that is read; refused words do not
abbrev pub asks_for_job : Result Settings WordsFault → Bool
asks_for_job (Err fault) = false
asks_for_job (Ok (setting.Grow growers places)) = true
asks_for_job (Ok (setting.Sample growers number)) = false
asks_for_job (Ok (setting.Census shape)) = false
asks_for_job (Ok (setting.Match relabelling)) = true
asks_for_job (Ok (setting.Wide growers)) = true

-- the status, the history, the held graph and the text that judged words and an input call for
pub data CallsFor (reporters : List Reporter) (input : List ℕ) : Result Settings WordsFault → Status → List Event → Option Held → List ℕ → Type 0 where
  -- refused words are answered by the number of their fault alone
  call_refused : (fault : WordsFault) (number : ℕ) → fault_number fault ≡ Some number → CallsFor reporters input (Err fault) WordsRefused [] None (words_refusal number)
  call_grow : (growers : ℕ) (places : List ℕ) (status : Status) (front : List Event) (held : Option Held) (text : List ℕ)
      → CallsForGraph reporters places (judged_input input) status front held text → CallsFor reporters input (Ok (setting.Grow growers places)) status front held text
  call_sample : (growers number : ℕ) (status : Status) (front : List Event) (held : Option Held) (text : List ℕ)
      → CallsForSample number status front held text → CallsFor reporters input (Ok (setting.Sample growers number)) status front held text
  call_census : (shape : ShapeType) (status : Status) (text : List ℕ) → CallsForCensus shape status text
      → CallsFor reporters input (Ok (setting.Census shape)) status [] None text
  call_match : (r : Relabelling) (status : Status) (text : List ℕ) → CallsForMatch r (judged_input input) status text
      → CallsFor reporters input (Ok (setting.Match r)) status [] None text
  call_wide : (growers : ℕ) (status : Status) (text : List ℕ) → CallsForWide (judged_input input) status text
      → CallsFor reporters input (Ok (setting.Wide growers)) status [] None text

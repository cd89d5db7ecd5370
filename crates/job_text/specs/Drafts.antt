-- What is known of a job while its lines are read.
use Rattle.std.specs.Prelude.{ℕ, ◌-◌, ◌<◌, ◌≤◌, List, [], ◌∷◌, ◌++◌, length, slice_index_or, slice_set, Option, Some, None, unwrap_or, All, IfSome}
use Rattle.tensor_words.specs.Spaces.{SpaceType, IsSpace, size}
use Rattle.tensor_words.specs.Worlds.{most_cells}
use Rattle.tensor_words.specs.declared.spaces.Order.{Order}
use Rattle.tensor_words.specs.declared.spaces.Order.TheVariants.{Standard}
use Rattle.job_text.specs.declared.drafts.TypedHead.{TypedHead}
use Rattle.job_text.specs.declared.commands.Command.{Command}
use Rattle.job_text.specs.declared.commands.Ask.{Ask}
use Rattle.job_text.specs.declared.jobs.Job.{Job}
use Rattle.job_text.specs.Jobs.{default_cells, IsScript, IsAsk, roots_of}

-- the tensor order of a job: the standard one where no line gave it
abbrev pub order_of : TypedHead → Order
order_of head = unwrap_or head.order Standard

-- from the line `shape` or `space` on: the space, the top word's code where a shape gave the space,
-- the codes of the `start` lines, the number of cells where a line gave it, the scripts and the asks so far
pub record Drafted : Type 0 where
  pub space : SpaceType
  pub top : Option ℕ
  pub starts : List ℕ
  pub cells : Option ℕ
  pub scripts : List (List Command)
  pub asks : List Ask

-- what holds of every draft
pub record IsDraft (d : Drafted) : Type 0 where
  pub space : IsSpace d.space
  pub top : IfSome d.top (λ c. c < size d.space)
  pub starts : All (λ c. c < size d.space) d.starts
  pub few_starts : length d.starts ≤ 256
  pub cells : IfSome d.cells (λ n. (1 ≤ n) × (n ≤ most_cells))
  pub scripts : All (IsScript d.space) d.scripts
  pub few_scripts : length d.scripts ≤ 16
  pub asks : All (IsAsk d.space) d.asks
  pub few_asks : length d.asks ≤ 8

-- behind the line `shape` or `space`
abbrev pub fresh : SpaceType → Option ℕ → Drafted
fresh s top = record { space = s; top = top; starts = []; cells = None; scripts = []; asks = [] }

-- the script of the session that was begun last
abbrev pub last_script : Drafted → List Command
last_script d = slice_index_or d.scripts (length d.scripts - 1) []

-- one more start, the number of cells, one more session, command or ask
abbrev pub with_start : Drafted → ℕ → Drafted
with_start d c = record d { starts = d.starts ++ c ∷ [] }

abbrev pub with_cells : Drafted → ℕ → Drafted
with_cells d n = record d { cells = Some n }

abbrev pub with_session : Drafted → Drafted
with_session d = record d { scripts = d.scripts ++ [] ∷ [] }

abbrev pub with_command : Drafted → Command → Drafted
with_command d c = record d { scripts = slice_set d.scripts (length d.scripts - 1) (last_script d ++ c ∷ []) }

abbrev pub with_ask : Drafted → Ask → Drafted
with_ask d a = record d { asks = d.asks ++ a ∷ [] }

-- all starts: the top word's code before those of the `start` lines
abbrev pub starts_from : Option ℕ → List ℕ → List ℕ
starts_from None starts = starts
starts_from (Some c) starts = c ∷ starts

abbrev pub starts_of : Drafted → List ℕ
starts_of d = starts_from d.top d.starts

-- the job of a draft whose lines are all read
abbrev pub job_of : Drafted → Job
job_of d = record {
  world = record {
    space = d.space;
    cells = unwrap_or d.cells default_cells;
    roots = roots_of (starts_of d) d.scripts;
  };
  starts = starts_of d;
  scripts = d.scripts;
  asks = d.asks;
}

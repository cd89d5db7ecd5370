-- What the sessions tell when they are back.
use Rattle.std.specs.Prelude.{ℕ, ◌+◌, ◌<◌, ◌≡◌, List, [], ◌++◌, length, slice_index_or, Result, Some, IfOk, All, Contains}
use Rattle.tensor_words.specs.Worlds.{WorldType}
use Rattle.graph_history.specs.Views.{View, Kept}
use Rattle.graph_rule.specs.Rule.{IsPrefix}
use Rattle.crystal_streams.specs.declared.faults.NoMemory.{NoMemory}
use Rattle.graph_rule.specs.Values.{GraphValue, SeatValue, Belongs}
use Rattle.job_text.specs.declared.commands.Command.{Command}
use Rattle.session_desk.specs.declared.reply.Reply.{Reply}
use Rattle.session_desk.specs.Replies.{replies}
use Rattle.session_desk.specs.Texts.{IsPrintable}
use Rattle.graph_runs.specs.declared.serve.Served.{Served}
use Rattle.graph_runs.specs.Beside.{IsBack}

-- the number n is kept at the view, and its calls tell these replies of the script
pub record Hears (w : WorldType) (v : View) (script : List Command) (n : ℕ) (told : List Reply) : Type 0 where
  pub kept : Kept
  pub there : Contains v.kept kept
  pub number : kept.number ≡ n
  pub replied : replies w.space script kept.calls ≡ Some told
  pub printable : All (IsPrintable w.space) told

-- seats were joined in: so many parts of the stake came back, and just these cells are unpaid besides
pub record HasJoined (g : GraphValue) (old new : SeatValue) (parts : ℕ) (cells : List ℕ) : Type 0 where
  pub belongs : Belongs new g
  pub number : new.view.number ≡ old.view.number
  pub stake : new.view.stake ≡ old.view.stake + parts
  pub left : new.view.left ≡ old.view.left
  pub pledge : new.view.dues.pledge ≡ 0
  pub front : IsPrefix old.view.front new.view.front
  pub unpaid : new.view.dues.unpaid ≡ old.view.dues.unpaid ++ cells

-- sessions that are not heard yet: that at place k, counted from 0, has the number k + 1
abbrev pub AreWaiting : GraphValue → List (List Command) → List (Result Served NoMemory) → Type 0
AreWaiting g scripts back =
    (k : ℕ) (d : Result Served NoMemory) → k < length back → IfOk (slice_index_or back k d) (IsBack g (slice_index_or scripts k []) (k + 1))

-- the sessions at the places from `rest` on were heard, the last one first
pub record IsHearing (g : GraphValue) (scripts : List (List Command)) (old new : SeatValue) (rest : ℕ) (told : List (List Reply)) (cells : List ℕ) : Type 0 where
  pub joined : HasJoined g old new (length told) cells
  pub count : length told + rest ≡ length scripts
  pub heard : (j k : ℕ) → j < length told → j + k + 1 ≡ length scripts → Hears g.world new.view (slice_index_or scripts k []) (k + 1) (slice_index_or told j [])

-- all sessions were heard, in order
pub record AreHeard (g : GraphValue) (scripts : List (List Command)) (old new : SeatValue) (told : List (List Reply)) (cells : List ℕ) : Type 0 where
  pub joined : HasJoined g old new (length scripts) cells
  pub count : length told ≡ length scripts
  pub heard : (k : ℕ) → k < length scripts → Hears g.world new.view (slice_index_or scripts k []) (k + 1) (slice_index_or told k [])

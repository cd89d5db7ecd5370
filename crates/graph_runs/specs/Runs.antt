-- What a run of a job on a shared graph promises.
use Rattle.std.specs.Prelude.{ℕ, ◌+◌, ◌<◌, ◌≡◌, List, ◌++◌, [], length, map, slice_index_or, Option, Some, None, Contains}
use Rattle.tensor_words.specs.Worlds.{WorldType}
use Rattle.tensor_words.specs.Reach.{IsComponentList, Outnumber}
use Rattle.canonical_graph.specs.Graphs.{FinishedType, finished_graph}
use Rattle.graph_history.specs.declared.event.Act.TheVariants.{Spent}
use Rattle.graph_history.specs.declared.event.Event.{Event}
use Rattle.graph_history.specs.History.{state_of, IsLegal, IsClosed, calls}
use Rattle.graph_history.specs.Laws.{IsCodeList}
use Rattle.graph_rule.specs.Rule.{whole}
use Rattle.graph_rule.specs.Values.{GraphValue, SeatValue, Belongs}
use Rattle.job_text.specs.declared.commands.Command.{Command}
use Rattle.job_text.specs.declared.commands.Command.TheVariants.{Add}
use Rattle.session_desk.specs.declared.reply.Reply.{Reply}
use Rattle.session_desk.specs.Replies.{replies}

-- the history begins with the starts
pub record IsStarted (w : WorldType) (starts : List ℕ) (front : List Event) : Type 0 where
  -- a first part comes before all the rest
  pub first : List Event
  pub rest : List Event
  pub is : front ≡ first ++ rest
  -- all of it is of the number 0
  pub own : calls first 0 ≡ first
  -- and it puts the starts in, in order, as by `add` commands
  pub told : List Reply
  pub replied : replies w.space (map Add starts) first ≡ Some told

-- the history of a run of a job
pub record IsHistory (w : WorldType) (starts : List ℕ) (scripts : List (List Command)) (front : List Event) (told : List (List Reply)) : Type 0 where
  -- each event is legal in the state of those before it
  pub legal : IsLegal w front
  -- it begins with the starts
  pub started : IsStarted w starts front
  -- each session has its replies
  pub count : length told ≡ length scripts
  -- the events under the number s, counted from 1, are those of the script of session s, each once and in its order, and
  -- tell its replies
  pub replied : (k : ℕ) → k < length scripts →
      replies w.space (slice_index_or scripts k []) (calls front (k + 1)) ≡ Some (slice_index_or told k [])

-- some word found no cell
abbrev pub HasSpent : List Event → Type 0
HasSpent h = (n : ℕ) × (x : ℕ) × Contains h (record { caller = n; act = Spent x })

-- how a run ends
pub data EndsRun (w : WorldType) (front : List Event) : Option FinishedType → Type 0 where
  -- its graph is closed, and numbered: the vertices are the words that are reached from the roots, and there are no more of
  -- these than cells
  closed : (codes : List ℕ) → IsClosed w (state_of front) → IsCodeList (state_of front) codes → IsComponentList w codes
      → (Outnumber w → ⊥) → EndsRun w front (Some (finished_graph w.space codes))
  -- or some word found no cell, and the reached words outnumber the cells
  spent : HasSpent front → Outnumber w → EndsRun w front None

-- the graph of the run, with the one seat that is left
pub record Holds (w : WorldType) (g : GraphValue) (s : SeatValue) (front : List Event) : Type 0 where
  -- the seat belongs to the graph
  pub belongs : Belongs s g
  -- whose world is the job's
  pub world : g.world ≡ w
  -- it has the number 0
  pub number : s.view.number ≡ 0
  -- and the whole stake, so that nobody else is at the graph
  pub stake : s.view.stake ≡ whole
  -- and its front is this history
  pub front_is : s.view.front ≡ front

-- Sessions: what may be asked, and what a session on a desk has told.
use Rattle.std.specs.Prelude.{ℕ, ◌+◌, ◌<◌, ◌≡◌, List, [], ◌++◌, length, slice_index_or, Some, All, Contains}
use Rattle.crystal_cartan.specs.Types.{HasIndex}
use Rattle.tensor_words.specs.Spaces.{size}
use Rattle.tensor_words.specs.Operators.{IsArrow}
use Rattle.tensor_words.specs.Worlds.{WorldType}
use Rattle.graph_history.specs.declared.event.Act.{Act}
use Rattle.graph_history.specs.declared.event.Event.{Event}
use Rattle.graph_history.specs.History.{calls, IsLegal}
use Rattle.graph_history.specs.Desks.{by, added_cells, Standing, Goes}
use Rattle.job_text.specs.declared.commands.Command.{Command}
use Rattle.job_text.specs.declared.commands.Command.TheVariants.{Add, Find, Look, Move, Wt, Eps, Phi, Done}
use Rattle.session_desk.specs.declared.reply.Reply.{Reply}
use Rattle.session_desk.specs.Replies.{Told, told_of, replies}
use Rattle.session_desk.specs.Texts.{IsPrintable}

-- a command puts in roots alone, and speaks of words, arrows and indices of the world's space; `done` of the whole graph
abbrev pub IsAsked : WorldType → Command → Type 0
IsAsked w (Add x) = Contains w.roots x
IsAsked w (Find x) = x < size w.space
IsAsked w (Look a x) = IsArrow w.space a × (x < size w.space)
IsAsked w (Move a x) = IsArrow w.space a × (x < size w.space)
IsAsked w (Wt x) = x < size w.space
IsAsked w (Eps i x) = HasIndex w.space.cartan i × (x < size w.space)
IsAsked w (Phi i x) = HasIndex w.space.cartan i × (x < size w.space)
IsAsked w Done = Unit {0}

-- a history begins with another
abbrev pub Continues : List Event → List Event → Type 0
Continues old new = (more : List Event) × (new ≡ old ++ more)

-- a desk went on by acts from which just this reply is told, whatever comes behind them, and owes for the cells that they
-- put in
pub record Replied {Bond : Type 0} (old new : Standing Bond) (places : ℕ) (tell : List Event → Told) (reply : Reply) : Type 0 where
  pub acts : List Act
  pub goes : Goes old new places acts
  pub unpaid : new.unpaid ≡ old.unpaid ++ added_cells acts
  pub told : (rest : List Event) → tell (by old.caller acts ++ rest) ≡ Some (reply, rest)
  pub printable : IsPrintable old.world.space reply

-- so it answered a command
abbrev pub IsAnswered : {Bond : Type 0} → Standing Bond → Standing Bond → ℕ → Command → Reply → Type 0
IsAnswered old new places command reply = Replied old new places (told_of old.world.space command) reply

-- a script ran: the list of replies grew by those of the script, told from the acts by which the desk went on, and each
-- of them can be printed; the desk owes for the cells that these acts put in
pub record RanScript {Bond : Type 0} (old new : Standing Bond) (script : List Command) (before after : List Reply) : Type 0 where
  pub acts : List Act
  pub goes : Goes old new (length script) acts
  pub unpaid : new.unpaid ≡ old.unpaid ++ added_cells acts
  pub told : List Reply
  pub appended : after ≡ before ++ told
  pub replied : replies old.world.space script (by old.caller acts) ≡ Some told
  pub printable : All (IsPrintable old.world.space) told

-- a script ran under a number that has no other events
pub record RanAlone (w : WorldType) (n : ℕ) (h : List Event) (script : List Command) (told : List Reply) : Type 0 where
  pub legal : IsLegal w h
  pub replied : replies w.space script (calls h n) ≡ Some told
  pub printable : All (IsPrintable w.space) told

-- the scripts of the sessions 1, 2, .. ran, each under its own number
pub record AllRan (w : WorldType) (h : List Event) (scripts : List (List Command)) (told : List (List Reply)) : Type 0 where
  pub legal : IsLegal w h
  pub count : length told ≡ length scripts
  pub replied : (k : ℕ) → k < length scripts → replies w.space (slice_index_or scripts k []) (calls h (k + 1)) ≡ Some (slice_index_or told k [])
  pub printable : (k : ℕ) → k < length scripts → All (IsPrintable w.space) (slice_index_or told k [])

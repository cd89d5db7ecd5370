-- Scripts at seats, and the starts.
use Rattle.std.specs.Prelude.{ℕ, ◌-◌, ◌^◌, ◌≡◌, List, ◌++◌, Some, All}
use Rattle.tensor_words.specs.Worlds.{WorldType}
use Rattle.graph_history.specs.declared.event.Act.{Act}
use Rattle.graph_history.specs.Desks.{by, added_cells}
use Rattle.graph_rule.specs.Rule.{whole, IsKnown}
use Rattle.graph_rule.specs.Values.{GraphValue, SeatValue, Belongs}
use Rattle.shared_desk.specs.SharedDesks.{Worked}
use Rattle.job_text.specs.declared.commands.Command.{Command}
use Rattle.session_desk.specs.declared.reply.Reply.{Reply}
use Rattle.session_desk.specs.Replies.{replies}
use Rattle.session_desk.specs.Texts.{IsPrintable}
use Rattle.graph_runs.specs.Runs.{IsStarted}

-- a script ran at a seat, which went on by acts that tell just these replies, and owes besides, unpaid, just the cells
-- that these acts put in
pub record IsServed (w : WorldType) (script : List Command) (old new : SeatValue) (cells : List ℕ) (told : List Reply) : Type 0 where
  pub acts : List Act
  pub worked : Worked old new acts
  pub listed : cells ≡ added_cells acts
  pub unpaid : new.view.dues.unpaid ≡ old.view.dues.unpaid ++ cells
  pub replied : replies w.space script (by old.view.number acts) ≡ Some told
  pub printable : All (IsPrintable w.space) told

-- the first seat of a graph has put the starts in, in these cells
pub record IsBegun (g : GraphValue) (starts : List ℕ) (s : SeatValue) (cells : List ℕ) : Type 0 where
  pub belongs : Belongs s g
  pub number : s.view.number ≡ 0
  pub begins : s.view.next ≡ 1
  pub left : s.view.left ≡ 2 ^ 32 - 1
  pub stake : s.view.stake ≡ whole
  pub pledge : s.view.dues.pledge ≡ 0
  pub owed : s.view.dues.owed ≡ cells
  pub unpaid : s.view.dues.unpaid ≡ cells
  pub known : IsKnown s.view
  pub started : IsStarted g.world starts s.view.front

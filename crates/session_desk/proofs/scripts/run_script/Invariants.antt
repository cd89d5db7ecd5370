use Rattle.std.proofs.Common.{◌≡◌, ◌+◌, length, take, vec_len, vec_capacity}
use Rattle.session_desk.proofs.Running.{Going}
use Rattle.session_desk.proofs.scripts.run_script.Given as goal

abbrev pub invariant-commands : goal.invariant-commands
invariant-commands g l = record {
  going : Going (g.D.Desk.standing l.fn.desk) (g.D.Desk.standing l.desk) (take l.place l.script) l.fn.replies.items l.replies.items;
  count : vec_len l.replies ≡ vec_len l.fn.replies + l.place;
  capacity : vec_capacity l.replies ≡ vec_capacity l.fn.replies;
  last : l.place-end ≡ length l.script;
}

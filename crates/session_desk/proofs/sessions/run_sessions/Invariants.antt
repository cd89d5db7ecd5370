use Rattle.std.proofs.Common.{◌≡◌, ℕ, ◌+◌, ◌*◌, ◌<◌, ◌≤◌, ◌⊎◌, length, take, vec_capacity}
use Rattle.graph_history.specs.History.{calls}
use Rattle.session_desk.specs.Sessions.{AllRan, Continues}
use Rattle.session_desk.proofs.sessions.run_sessions.Given as goal

abbrev pub invariant-sessions : goal.invariant-sessions
invariant-sessions l = record {
  ran : AllRan l.fn.desk.world l.desk.front (take l.place l.scripts) l.told.items;
  world : l.desk.world ≡ l.fn.desk.world;
  begins : Continues l.fn.desk.front l.desk.front;
  room : l.fn.desk.room ≤ l.desk.room + 4096 * l.place;
  others : (n : ℕ) → (n ≡ 0) ⊎ (l.place < n) → calls l.desk.front n ≡ calls l.fn.desk.front n;
  capacity : length l.scripts ≤ vec_capacity l.told;
  last : l.place-end ≡ length l.scripts;
}

-- The seats of the sessions.
use Rattle.std.specs.Prelude.{ℕ, ◌<◌, ◌≡◌, List, length, slice_index_or}
use Rattle.graph_history.specs.Views.{View}
use Rattle.graph_rule.specs.Parting.{cut_left, cut_right}
use Rattle.graph_rule.specs.Values.{GraphValue, SeatValue, Belongs}
use Rattle.graph_runs.specs.declared.seats.Session.{Session}

-- the session at place k has a seat that was split off, with one number and one part of the stake, after k others
pub record IsSeatedAt (g : GraphValue) (v : View) (k : ℕ) (one : Session) : Type 0 where
  pub belongs : Belongs one.seat g
  pub placed : one.place ≡ k
  pub cut : one.seat.view ≡ cut_right 1 1 (cut_left k k v)

-- so many sessions have their seats, in order
pub record IsSeated (g : GraphValue) (old new : SeatValue) (count : ℕ) (sessions : List Session) : Type 0 where
  pub table : new.table ≡ old.table
  pub cut : new.view ≡ cut_left count count old.view
  pub many : length sessions ≡ count
  pub each : (k : ℕ) (d : Session) → k < count → IsSeatedAt g old.view k (slice_index_or sessions k d)

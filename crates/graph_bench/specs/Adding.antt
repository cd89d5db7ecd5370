-- Adds from several seats.
use Rattle.std.specs.Prelude.{ℕ, ◌+◌, ◌≤◌, ◌≡◌, None}
use Rattle.graph_rule.specs.Values.{GraphValue, SeatValue, Belongs}
use Rattle.wide_rule.specs.Values.{WideGraphValue, WideSeatValue, Belongs as BelongsToWide}

-- the seat belongs to the graph, has nothing pledged, and can give stake and numbers to make so many seats of it
pub record CanAdd (g : GraphValue) (s : SeatValue) (seats : ℕ) : Type 0 where
  pub belongs : Belongs s g
  pub pledge : s.view.dues.pledge ≡ 0
  pub stake : seats ≤ s.view.stake
  pub numbers : seats ≤ s.view.left + 1

-- the seat afterwards, which has its stake again, and how many of so many roots were new
pub record HasAdded (g : GraphValue) (s : SeatValue) (roots : ℕ) (answer : SeatValue × ℕ) : Type 0 where
  pub belongs : Belongs answer.0 g
  pub pledge : answer.0.view.dues.pledge ≡ 0
  pub stake : answer.0.view.stake ≡ s.view.stake
  pub few : answer.1 ≤ roots

-- the seat belongs to the wide graph, and has no cell pending
pub record CanAddPairs (g : WideGraphValue) (s : WideSeatValue) : Type 0 where
  pub belongs : BelongsToWide s g
  pub idle : s.view.dues.pending ≡ None

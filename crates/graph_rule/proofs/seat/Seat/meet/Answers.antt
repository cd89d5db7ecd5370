-- Any seat may take in the whole history.
use Rattle.std.proofs.Common.{rules}
use Rattle.graph_rule.proofs.Joining.{meet_allowed}
use Rattle.graph_rule.proofs.seat.Seat.meet.Goals as goal

pub load-found-requires : goal.load-found-requires
load-found-requires c = (
  search rules,
  search rules,
  meet_allowed c.graph.inside.board.shared.key c.graph.inside.board.shared.table_id.slots c.self.inside.token.id c.self.inside.token.me 0 c.self.invariant.5.sound.live,
)

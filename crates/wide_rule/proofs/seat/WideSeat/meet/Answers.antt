-- Any seat may take in the whole history.
use Rattle.std.proofs.Common.{rules}
use Rattle.wide_rule.proofs.CellSteps.{meet_allowed}
use Rattle.wide_rule.proofs.seat.WideSeat.meet.Goals as goal

pub load-found-requires : goal.load-found-requires
load-found-requires c = (
  search rules,
  search rules,
  meet_allowed c.graph.inside.board.shared.key c.graph.inside.board.shared.table_id.slots c.self.inside.token.id c.self.inside.token.me c.self.invariant.5.sound.live 0,
)

use Rattle.std.proofs.Common.{rules}
use Rattle.graph_rule.proofs.DebtSteps.{tallies}
use Rattle.graph_rule.proofs.payments.tally.Goals as goal

pub load-requires : goal.load-requires
load-requires c = (search rules, search rules, tallies _ _ _ _ c.seat.invariant.5.sound.live)

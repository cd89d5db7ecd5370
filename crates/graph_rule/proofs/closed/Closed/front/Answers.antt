use Rattle.std.proofs.Common.{subst}
use Rattle.graph_history.specs.History.{state_of, IsClosed}
use Rattle.graph_rule.specs.Values.{ClosedValue}
use Rattle.graph_rule.proofs.closed.Closed.front.Goals as goal

pub returns-clause-closed : goal.returns-clause-closed
returns-clause-closed c = subst (λ (q : ClosedValue). IsClosed q.world (state_of q.front)) c.self.view_is c.self.invariant

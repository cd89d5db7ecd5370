use Rattle.std.proofs.Common.{subst}
use Rattle.graph_history.specs.History.{state_of, IsClosed}
use Rattle.wide_words.specs.WideHistory.{flat}
use Rattle.wide_rule.specs.Values.{WideClosedValue}
use Rattle.wide_rule.proofs.closed.WideClosed.front.Goals as goal

pub returns-clause-closed : goal.returns-clause-closed
returns-clause-closed c = subst (λ (q : WideClosedValue). IsClosed (flat q.world) (state_of q.front)) c.self.view_is c.self.invariant

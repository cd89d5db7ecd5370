use Rattle.std.proofs.Common.{sym, subst, Contains, rules}
use Rattle.graph_history.specs.History.{state_of, IsWhole}
use Rattle.graph_rule.specs.Values.{SeatValue}
use Rattle.graph_rule.proofs.DebtSteps.{paying}
use Rattle.graph_rule.proofs.payments.pay_as.Goals as goal

pub fetch_sub-found-requires : goal.fetch_sub-found-requires
fetch_sub-found-requires g c =
    let has = subst (λ (q : SeatValue). Contains q.view.dues.unpaid c.args._cell) (sym c.seat.view_is) c.requires.unpaid in
    let done = subst (λ (q : SeatValue). IsWhole q.view.world (state_of q.view.front) c.args._cell) (sym c.seat.view_is) c.requires.finished in
    (search rules, search rules, rw c.requires.asked (paying _ _ _ _ c.seat.invariant.5.sound.live c.args._cell has done))

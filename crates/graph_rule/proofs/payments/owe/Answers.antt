use Rattle.std.proofs.Common.{sym, subst, ◌≡◌, rules}
use Rattle.graph_rule.specs.Values.{SeatValue}
use Rattle.graph_rule.proofs.DebtSteps.{owing}
use Rattle.graph_rule.proofs.payments.owe.Goals as goal

pub fetch_add-found-requires : goal.fetch_add-found-requires
fetch_add-found-requires c =
    let free = subst (λ (q : SeatValue). q.view.dues.pledge ≡ 0) (sym c.seat.view_is) c.requires.pledge in
    (search rules, search rules, owing _ _ _ _ c.seat.invariant.5.sound.live free)

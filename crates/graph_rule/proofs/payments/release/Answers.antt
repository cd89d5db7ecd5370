use Rattle.std.proofs.Common.{sym, subst, ◌≡◌, rules}
use Rattle.graph_rule.specs.Values.{SeatValue}
use Rattle.graph_rule.proofs.DebtSteps.{releasing}
use Rattle.graph_rule.proofs.payments.release.Goals as goal

pub fetch_sub-found-requires : goal.fetch_sub-found-requires
fetch_sub-found-requires c =
    let held = subst (λ (q : SeatValue). q.view.dues.pledge ≡ 1) (sym c.seat.view_is) c.requires.pledge in
    (search rules, search rules, releasing _ _ _ _ c.seat.invariant.5.sound.live held)

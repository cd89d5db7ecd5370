use Rattle.std.proofs.Common.{◌≡◌, sym, ap, subst, ◌<◌, None, rules, arith}
use Rattle.wide_words.specs.WideHistory.{WideWorldType}
use Rattle.wide_rule.specs.Layout.{cell_count}
use Rattle.wide_rule.specs.Values.{WideSeatValue, WideGraphValue}
use Rattle.wide_rule.proofs.FirstClaims.{claims_first}
use Rattle.wide_rule.proofs.steps.claim_first_as.Goals as goal

pub compare_exchange-requires : goal.compare_exchange-requires
compare_exchange-requires g c =
    let seats = ap (λ (q : WideSeatValue). q.view.world.capacity) c.seat.view_is in
    let graphs = ap (λ (u : WideWorldType). u.capacity) c.requires.belongs.world in
    let below : c.args.cell < cell_count c.seat.inside.token.me.0.world = omega arith in
    let idle = subst (λ (q : WideSeatValue). q.view.dues.pending ≡ None) (sym c.seat.view_is) c.requires.idle in
    let count = c.graph.invariant.1 in
    let world = ap (λ (q : WideGraphValue). q.world.capacity) c.graph.view_is in (
      search rules,
      omega arith,
      rw (c.requires.asked.0, c.requires.asked.1)
          (claims_first c.graph.inside.board.shared.key _ _ _ c.seat.invariant.5.sound.live c.args.cell below c.args.code idle),
    )

use Rattle.std.proofs.Common.{refl, sym, ap, subst, ◌≡◌, ◌+◌, ◌<◌, rules, arith}
use Rattle.tensor_words.specs.Spaces.{size}
use Rattle.tensor_words.specs.Worlds.{WorldType}
use Rattle.graph_history.specs.History.{state_of, IsOrigin}
use Rattle.graph_rule.specs.Layout.{IsSearched}
use Rattle.graph_rule.specs.Values.{SeatValue}
use Rattle.graph_rule.proofs.Claiming.{claims}
use Rattle.graph_rule.proofs.steps.claim_as.Goals as goal

pub compare_exchange-requires : goal.compare_exchange-requires
compare_exchange-requires g c =
    let seats = ap (λ (q : SeatValue). q.view.world.cells) c.seat.view_is in
    let graphs = ap (λ (u : WorldType). u.cells) c.requires.belongs.world in
    let below : c.args.cell < c.seat.inside.token.me.0.world.cells = omega arith in
    let path = subst (λ (q : SeatValue). IsSearched q.view.world (state_of q.view.front) c.args.cell c.args.code) (sym c.seat.view_is) c.requires.searched in
    let word = subst (λ (q : SeatValue). c.args.code < size q.view.world.space) (sym c.seat.view_is) c.requires.word in
    let cause = subst (λ (q : SeatValue). IsOrigin q.view.world (state_of q.view.front) c.args.code c.args._origin) (sym c.seat.view_is) c.requires.origin in
    let pledge = subst (λ (q : SeatValue). q.view.dues.pledge ≡ 1) (sym c.seat.view_is) c.requires.pledge in (
      search rules,
      search rules,
      rw (c.requires.asked.0, c.requires.asked.1, c.requires.asked.2)
          (claims _ _ _ _ c.seat.invariant.5.sound.live (1 + c.args.cell) c.args.cell refl below c.args.code path word c.args._origin cause pledge),
    )

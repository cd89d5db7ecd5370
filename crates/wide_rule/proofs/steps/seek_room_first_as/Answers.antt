use Rattle.std.proofs.Common.{sym, ap, subst, ◌<◌, rules, arith}
use Rattle.graph_history.specs.History.{state_of, IsOrigin}
use Rattle.wide_words.specs.WideSpaces.{IsWide, number}
use Rattle.wide_words.specs.WideHistory.{WideWorldType, flat}
use Rattle.wide_rule.specs.Layout.{cell_count, IsSearched}
use Rattle.wide_rule.specs.Values.{WideSeatValue, WideGraphValue}
use Rattle.wide_rule.proofs.CellSteps.{seeks_empty_first}
use Rattle.wide_rule.proofs.steps.seek_room_first_as.Goals as goal

pub load-requires : goal.load-requires
load-requires g c =
    let seats = ap (λ (q : WideSeatValue). q.view.world.capacity) c.seat.view_is in
    let graphs = ap (λ (u : WideWorldType). u.capacity) c.requires.belongs.world in
    let below : c.args.cell < cell_count c.seat.inside.token.me.0.world = omega arith in
    let wide = subst (λ (q : WideSeatValue). IsWide q.view.world.space c.args.code) (sym c.seat.view_is) c.requires.code in
    let path = subst (λ (q : WideSeatValue). IsSearched q.view.world (state_of q.view.front) q.view.dues.seen c.args.code c.args.cell) (sym c.seat.view_is) c.requires.searched in
    let cause = subst (λ (q : WideSeatValue). IsOrigin (flat q.view.world) (state_of q.view.front) (number q.view.world.space c.args.code) c.args._origin) (sym c.seat.view_is) c.requires.origin in
    let count = c.graph.invariant.1 in
    let world = ap (λ (q : WideGraphValue). q.world.capacity) c.graph.view_is in (
      search rules,
      omega arith,
      rw (c.requires.asked.0, c.requires.asked.1)
          (seeks_empty_first c.graph.inside.board.shared.key _ _ _ c.seat.invariant.5.sound.live c.args.cell below c.args.code wide path c.args._origin cause),
    )

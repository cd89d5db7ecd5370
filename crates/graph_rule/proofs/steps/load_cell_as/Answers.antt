use Rattle.std.proofs.Common.{refl, ap, ◌+◌, ◌<◌, rules, arith}
use Rattle.tensor_words.specs.Worlds.{WorldType}
use Rattle.graph_rule.specs.Values.{SeatValue}
use Rattle.graph_rule.proofs.CellSteps.{looks}
use Rattle.graph_rule.proofs.steps.load_cell_as.Goals as goal

pub load-requires : goal.load-requires
load-requires g c =
    let seats = ap (λ (q : SeatValue). q.view.world.cells) c.seat.view_is in
    let graphs = ap (λ (u : WorldType). u.cells) c.requires.belongs.world in
    let below : c.args.cell < c.seat.inside.token.me.0.world.cells = omega arith in (
      search rules,
      search rules,
      rw c.requires.asked (looks _ _ _ _ c.seat.invariant.5.sound.live (1 + c.args.cell) c.args.cell refl below),
    )

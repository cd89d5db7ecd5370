use Rattle.std.proofs.Common.{refl, ap, ◌+◌, ◌<◌, rules, arith}
use Rattle.tensor_words.specs.Worlds.{WorldType}
use Rattle.graph_rule.specs.Values.{SeatValue}
use Rattle.graph_rule.proofs.CellSteps.{confirms}
use Rattle.graph_rule.proofs.steps.confirm_as.Goals as goal

pub load-word-requires : goal.load-word-requires
load-word-requires g c =
    let seats = ap (λ (q : SeatValue). q.view.world.cells) c.seat.view_is in
    let graphs = ap (λ (u : WorldType). u.cells) c.requires.belongs.world in
    let below : c.args.cell < c.seat.inside.token.me.0.world.cells = omega arith in (
      search rules,
      search rules,
      rw (c.requires.asked.0, c.requires.asked.1) (confirms _ _ _ _ c.seat.invariant.5.sound.live (1 + c.args.cell) c.args.cell refl below c.args.code),
    )

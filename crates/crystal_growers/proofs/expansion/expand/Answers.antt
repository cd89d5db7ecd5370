use Rattle.std.proofs.Common.{◌≡◌, ◌∙◌, ℕ, ◌+◌, ◌*◌, ◌<◌, ◌≤◌, ap, subst, Result, arith}
use Rattle.crystal_cartan.specs.Types.{CartanType}
use Rattle.tensor_words.specs.Spaces.{SpaceType}
use Rattle.signature_rule.specs.ArrowOrder.{arrow_place}
use Rattle.crystal_growers.specs.declared.expansion.Spent.{Spent}
use Rattle.crystal_growers.specs.Expansion.{ArrowDrawn}
use Rattle.crystal_growers.proofs.ExpandSteps.{arrow_fits, expands_none, expanding_there, expanding_arrow, expanding_room, expands_full, expands_more}
use Rattle.crystal_growers.proofs.expansion.expand.Goals as goal

pub arrows-init : goal.arrows-init
arrows-init g c = record {
  expanding = expands_none (g.D.Desk.standing c.args.desk.now) (g.D.Desk.standing c.word-code.new.self) c.args.cell c.word-code.result c.requires.there c.word-code.ensures.goes c.word-code.ensures.value;
  rank = c.rank-rank.ensures.rank ∙ ap (λ (t : CartanType). t.rank) c.cartan.ensures.cartan ∙ ap (λ (s : SpaceType). s.cartan.rank) c.space.ensures.space;
}

pub draw_one-requires-clause-there : goal.draw_one-requires-clause-there
draw_one-requires-clause-there g c = expanding_there (g.D.Desk.standing c.args.desk.now) (g.D.Desk.standing c.arrows.desk) _ _ _ c.arrows.invariant.expanding

pub draw_one-requires-clause-arrow : goal.draw_one-requires-clause-arrow
draw_one-requires-clause-arrow g c =
    expanding_arrow (g.D.Desk.standing c.args.desk.now) (g.D.Desk.standing c.arrows.desk) _ _ _ c.arrows.invariant.expanding c.arrow_at.result
    (arrow_fits _ c.arrow_at.result c.rank-rank.result c.arrows.invariant.rank c.arrow_at.ensures.low c.arrow_at.ensures.high)

pub draw_one-requires-clause-room : goal.draw_one-requires-clause-room
draw_one-requires-clause-room g c = expanding_room (g.D.Desk.standing c.args.desk.now) (g.D.Desk.standing c.arrows.desk) _ _ _ c.arrows.invariant.expanding _ c.arrows.invariant.rank c.requires.room c.arrows-test.true

pub returns-in-Err : goal.returns-in-Err
returns-in-Err g c =
    let old = g.D.Desk.standing c.args.desk.now in
    let below : c.arrows.place < 2 * c.rank-rank.result = c.arrows-test.true in
    let within : c.arrows.place + 1 ≤ 2 * c.rank-rank.result = omega arith in
    let drawn = subst (λ (r : Result (Unit {0}) Spent). ArrowDrawn (g.D.Desk.standing c.arrows.desk) (g.D.Desk.standing c.draw_one.new.desk) c.args.cell c.word-code.result c.arrow_at.result r) c.in-Err.is c.draw_one.ensures in
    expands_full old (g.D.Desk.standing c.arrows.desk) (g.D.Desk.standing c.draw_one.new.desk) _ _ _ _ c.arrows.invariant.expanding c.in-Err.spent drawn
    (subst (λ (r : ℕ). c.arrows.place + 1 ≤ 2 * r) c.arrows.invariant.rank within)

pub arrows-preserved : goal.arrows-preserved
arrows-preserved g c =
    let old = g.D.Desk.standing c.args.desk.now in
    let arrow = arrow_fits old.world.space c.arrow_at.result c.rank-rank.result c.arrows.invariant.rank c.arrow_at.ensures.low c.arrow_at.ensures.high in
    let place = subst (λ (r : ℕ). arrow_place r c.arrow_at.result ≡ c.arrows.place) c.arrows.invariant.rank c.arrow_at.ensures.place in
    let drawn = subst (λ (r : Result (Unit {0}) Spent). ArrowDrawn (g.D.Desk.standing c.arrows.desk) (g.D.Desk.standing c.draw_one.new.desk) c.args.cell c.word-code.result c.arrow_at.result r) c.in-Ok.is c.draw_one.ensures in
    record {
      expanding = expands_more old (g.D.Desk.standing c.arrows.desk) (g.D.Desk.standing c.draw_one.new.desk) _ _ _ _ c.arrows.invariant.expanding drawn arrow place;
      rank = c.arrows.invariant.rank;
    }

use Rattle.std.proofs.Common.{◌≡◌, ◌∙◌, ℕ, ◌+◌, ◌*◌, ◌<◌, ◌≤◌, ap, subst, Result, arith}
use Rattle.crystal_cartan.specs.Types.{CartanType}
use Rattle.tensor_words.specs.Spaces.{SpaceType}
use Rattle.tensor_words.specs.Worlds.{WorldType}
use Rattle.signature_rule.specs.ArrowOrder.{arrow_place}
use Rattle.crystal_growers.specs.declared.expansion.Spent.{Spent}
use Rattle.shared_desk.specs.SharedDesks.{standing_of}
use Rattle.crystal_growers.specs.Expansion.{ArrowDrawn}
use Rattle.crystal_growers.proofs.ExpandSteps.{arrow_fits, expands_none, expanding_there, expanding_arrow, expanding_room, expands_full, expands_more}
use Rattle.crystal_growers.proofs.expansion.both_ends.expand_both.Goals as goal

pub arrows-init : goal.arrows-init
arrows-init c = record {
  expanding = expands_none (standing_of c.args.desk.now) (standing_of c.code_at-code.new.self) c.args.cell c.code_at-code.result c.requires.there c.code_at-code.ensures.goes c.code_at-code.ensures.is;
  rank = c.rank-rank.ensures.rank ∙ ap (λ (t : CartanType). t.rank) c.cartan.ensures.cartan ∙ ap (λ (s : SpaceType). s.cartan.rank) c.space.ensures.space ∙ ap (λ (w : WorldType). w.space.cartan.rank) c.world.ensures.value;
}

pub draw_both-requires-clause-there : goal.draw_both-requires-clause-there
draw_both-requires-clause-there c = expanding_there (standing_of c.args.desk.now) (standing_of c.arrows.desk) _ _ _ c.arrows.invariant.expanding

pub draw_both-requires-clause-arrow : goal.draw_both-requires-clause-arrow
draw_both-requires-clause-arrow c =
    expanding_arrow (standing_of c.args.desk.now) (standing_of c.arrows.desk) _ _ _ c.arrows.invariant.expanding c.arrow_at.result
    (arrow_fits _ c.arrow_at.result c.rank-rank.result c.arrows.invariant.rank c.arrow_at.ensures.low c.arrow_at.ensures.high)

pub draw_both-requires-clause-room : goal.draw_both-requires-clause-room
draw_both-requires-clause-room c = expanding_room (standing_of c.args.desk.now) (standing_of c.arrows.desk) _ _ _ c.arrows.invariant.expanding _ c.arrows.invariant.rank c.requires.room c.arrows-test.true

pub returns-in-Err : goal.returns-in-Err
returns-in-Err c =
    let old = standing_of c.args.desk.now in
    let below : c.arrows.place < 2 * c.rank-rank.result = c.arrows-test.true in
    let within : c.arrows.place + 1 ≤ 2 * c.rank-rank.result = omega arith in
    let drawn = subst (λ (r : Result (Unit {0}) Spent). ArrowDrawn (standing_of c.arrows.desk) (standing_of c.draw_both.new.desk) c.args.cell c.code_at-code.result c.arrow_at.result r) c.in-Err.is c.draw_both.ensures in
    expands_full old (standing_of c.arrows.desk) (standing_of c.draw_both.new.desk) _ _ _ _ c.arrows.invariant.expanding c.in-Err.spent drawn
    (subst (λ (r : ℕ). c.arrows.place + 1 ≤ 2 * r) c.arrows.invariant.rank within)

pub arrows-preserved : goal.arrows-preserved
arrows-preserved c =
    let old = standing_of c.args.desk.now in
    let arrow = arrow_fits old.world.space c.arrow_at.result c.rank-rank.result c.arrows.invariant.rank c.arrow_at.ensures.low c.arrow_at.ensures.high in
    let place = subst (λ (r : ℕ). arrow_place r c.arrow_at.result ≡ c.arrows.place) c.arrows.invariant.rank c.arrow_at.ensures.place in
    let drawn = subst (λ (r : Result (Unit {0}) Spent). ArrowDrawn (standing_of c.arrows.desk) (standing_of c.draw_both.new.desk) c.args.cell c.code_at-code.result c.arrow_at.result r) c.in-Ok.is c.draw_both.ensures in
    record {
      expanding = expands_more old (standing_of c.arrows.desk) (standing_of c.draw_both.new.desk) _ _ _ _ c.arrows.invariant.expanding drawn arrow place;
      rank = c.arrows.invariant.rank;
    }

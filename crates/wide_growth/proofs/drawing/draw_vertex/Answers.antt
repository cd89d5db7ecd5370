-- The arrows of the next index are drawn.
use Rattle.std.proofs.Common.{◌≡◌, ◌∙◌, ◌+◌, ◌<◌, ◌≤◌, ℕ, refl, sym, ap, subst, true, false, cond, is_some, arith, rules}
use Rattle.crystal_cartan.specs.Types.{CartanType}
use Rattle.tensor_words.specs.Operators.{op}
use Rattle.wide_words.specs.WideSpaces.{WideSpaceType, whole, number}
use Rattle.wide_words.specs.WideHistory.{WideWorldType}
use Rattle.wide_growth.proofs.Going.{vertex_later, goes_none, goes_then, ready_after}
use Rattle.wide_growth.proofs.Arrows.{some_at}
use Rattle.wide_growth.proofs.Counting.{arrows_more, arrows_few}
use Rattle.wide_growth.proofs.Drawn.{drawn_none, drawn_more, drawn_whole}
use Rattle.wide_growth.proofs.drawing.draw_vertex.Goals as goal

pub indices-init : goal.indices-init
indices-init c = record {
  goes = goes_none c.args.seat.now c.args.added.now.items c.reveal.ensures.known c.requires.ready.idle;
  drawn = drawn_none c.args.seat.now.view.front c.args.vertex.cell;
  counted = refl;
  rank = c.rank-rank.ensures.rank ∙ ap (λ (t : CartanType). t.rank) c.cartan.ensures.cartan ∙ ap (λ (s : WideSpaceType). s.high.cartan.rank) c.requires.steps;
}

pub draw_index-requires-clause-there : goal.draw_index-requires-clause-there
draw_index-requires-clause-there c =
    vertex_later c.args.graph.now.world c.args.seat.now.view.front c.indices.seat.view.front c.args.vertex c.indices.invariant.goes.front c.requires.there

pub overflow_add-arrows : goal.overflow_add-arrows
overflow_add-arrows c =
    let few = arrows_few (whole c.args.graph.now.world.space) (number c.args.graph.now.world.space c.args.vertex.code) c.indices.before in
    let is = c.indices.invariant.counted in
    let within = c.indices-test.true in
    let rank = c.cartan.ensures.space.high.cartan.high in
    let same = ap (λ (t : CartanType). t.rank) c.cartan.ensures.cartan in
    let rank_is = c.rank-rank.ensures.rank in
    let one = c.one_if-arrows.ensures.few in
    omega arith

pub indices-preserved : goal.indices-preserved
indices-preserved c =
    let i = c.indices.invariant in
    let w : WideWorldType = c.args.graph.now.world in
    let d = c.in-Ok.ensures.lowering in
    let leads = some_at c.indices.seat.view.world w (record { down = true; index = c.indices.before + 1 }) c.args.vertex c.in-Ok.leads (sym (i.goes.world ∙ c.requires.ready.belongs.world)) d.counted in
    record {
      goes = goes_then c.args.seat.now c.indices.seat c.draw_index.new.seat c.args.added.now.items c.indices.added.items c.draw_index.new.added.items i.goes d.goes;
      drawn = drawn_more c.indices.seat.view.front c.draw_index.new.seat.view.front c.args.vertex.cell c.indices.before d.goes.front i.drawn d.drawn c.in-Ok.ensures.raising;
      counted = ap (λ (k : ℕ). c.indices.arrows + k) c.one_if-arrows.ensures.value ∙ ap (λ (n : ℕ). n + cond c.in-Ok.leads 1 0) i.counted ∙ sym (arrows_more (whole w.space) (number w.space c.args.vertex.code) c.indices.before c.in-Ok.leads leads);
      rank = i.rank;
    }

pub returns-clause-drawn : goal.returns-clause-drawn
returns-clause-drawn c =
    let within = c.indices-test.false in
    let i = c.indices.invariant in
    let most = c.indices.auto.before-end in
    let same : c.indices.before ≡ c.rank-rank.result = omega arith in
    drawn_whole c.args.graph.now.world c.indices.seat.view.front c.args.vertex.cell c.indices.before (same ∙ i.rank) i.drawn

pub returns-clause-few : goal.returns-clause-few
returns-clause-few c =
    let few = arrows_few (whole c.args.graph.now.world.space) (number c.args.graph.now.world.space c.args.vertex.code) c.indices.before in
    let is = c.indices.invariant.counted in
    let within = c.indices.auto.before-end in
    let rank = c.cartan.ensures.space.high.cartan.high in
    let same = ap (λ (t : CartanType). t.rank) c.cartan.ensures.cartan in
    let rank_is = c.rank-rank.ensures.rank in
    omega arith

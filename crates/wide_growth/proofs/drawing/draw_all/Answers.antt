-- The next vertex is drawn.
use Rattle.std.proofs.Common.{◌≡◌, ◌∙◌, ◌+◌, ◌*◌, ◌<◌, ◌≤◌, ℕ, refl, sym, ap, ap₂, subst, List, get_or, length, take, sum_by, All, arith, rules}
use Rattle.std.proofs.lemmas.List.{take_all}
use Rattle.wide_growth.specs.declared.drawing.OpenVertex.{OpenVertex}
use Rattle.wide_growth.specs.Drawing.{IsVertex, arrows_of}
use Rattle.wide_growth.specs.Rounds.{HasDrawn}
use Rattle.wide_growth.proofs.Going.{vertex_later, goes_then}
use Rattle.wide_growth.proofs.Drawn.{all_more, count_more, has_drawn}
use Rattle.wide_growth.proofs.drawing.draw_all.Goals as goal

pub draw_vertex-requires-clause-there : goal.draw_vertex-requires-clause-there
draw_vertex-requires-clause-there c =
    vertex_later c.args.graph.now.world c.args.seat.now.view.front c.vertices.seat.view.front (get_or c.args.waiting.now c.vertices.vertex-index (record { cell = 0; code = record { high = 0; low = 0 } }))
    c.vertices.invariant.goes.front (c.requires.can.vertices c.vertices.vertex-index (record { cell = 0; code = record { high = 0; low = 0 } }) c.vertices-test.true)

pub vertices-preserved : goal.vertices-preserved
vertices-preserved c =
    let i = c.vertices.invariant in
    let none : OpenVertex = record { cell = 0; code = record { high = 0; low = 0 } } in
    let more = c.from-arrows.ensures in
    let few = c.in-Ok.ensures.few in
    let before = i.few in
    record {
      goes = goes_then c.args.seat.now c.vertices.seat c.draw_vertex.new.seat c.args.added.now.items c.vertices.added.items c.draw_vertex.new.added.items i.goes c.in-Ok.ensures.goes;
      drawn = all_more c.args.graph.now.world c.vertices.seat.view.front c.draw_vertex.new.seat.view.front c.args.waiting.now c.vertices.vertex-index none c.in-Ok.ensures.goes.front c.vertices-test.true i.drawn
          c.in-Ok.ensures.drawn;
      counted = count_more c.args.graph.now.world.space c.args.waiting.now c.vertices.vertex-index c.vertices.arrows c.from-arrows.result none c.vertices-test.true i.counted (more ∙ c.in-Ok.ensures.counted);
      few = omega arith;
    }

pub returns-clause-drawn : goal.returns-clause-drawn
returns-clause-drawn c =
    has_drawn c.args.graph.now c.args.seat.now c.vertices.seat c.args.waiting.now c.args.added.now.items c.vertices.added.items c.vertices.vertex-index c.vertices.arrows c.requires.can.ready c.vertices.invariant.goes
    c.vertices-test.false c.vertices.invariant.drawn c.vertices.invariant.counted

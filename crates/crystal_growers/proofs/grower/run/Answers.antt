-- The parcel's cells are all that waits after its seat joined.
use Rattle.std.proofs.Common.{◌∙◌, sym, subst, ℕ, List, []}
use Rattle.graph_rule.specs.Values.{SeatValue}
use Rattle.crystal_growers.specs.Drawing.{CanDraw, HasDrawn}
use Rattle.crystal_growers.specs.Grower.{HasRun}
use Rattle.crystal_growers.proofs.Waiting.{ended_drawn}
use Rattle.crystal_growers.proofs.Running.{has_joined, run_of}
use Rattle.crystal_growers.proofs.grower.run.Goals as goal

pub draw_few-requires-clause-can : goal.draw_few-requires-clause-can
draw_few-requires-clause-can g c =
    let t = c.take_in-cells in
    subst (λ (l : List ℕ). CanDraw c.args.graph.now l t.new.seat) (sym (c.as_slice.ensures ∙ t.ensures.cells)) (t.ensures.waits [] c.requires.free).can

pub share-requires-clause-ended : goal.share-requires-clause-ended
share-requires-clause-ended g c =
    let t = c.take_in-cells in
    let d = c.in-Ok.drawn in
    ended_drawn c.args.graph.now t.new.seat d.seat c.args.parcel.cells d.added.items (t.ensures.waits [] c.requires.free) d.full
    (subst (λ (l : List ℕ). HasDrawn l t.new.seat d.seat d.added.items d.full) (c.as_slice.ensures ∙ t.ensures.cells) c.in-Ok.ensures)

pub returns-in-Ok : goal.returns-in-Ok
returns-in-Ok g c =
    let t = c.take_in-cells in
    let d = c.in-Ok.drawn in
    run_of c.args.graph.now c.args.seat t.new.seat d.seat c.args.bench.now c.share.new.bench c.args.parcel d.added.items d.full c.share.result t.ensures.works
    (subst (λ (l : List ℕ). HasDrawn l t.new.seat d.seat d.added.items d.full) (c.as_slice.ensures ∙ t.ensures.cells) c.in-Ok.ensures) c.share.ensures

pub returns : goal.returns
returns g c =
    let t = c.take_in-cells in (
      subst (λ (s : SeatValue). HasRun c.args.graph.now c.args.seat s c.args.bench.now c.args.bench.now c.args.parcel) (sym c.in-Err.ensures)
          (has_joined c.args.graph.now c.args.seat t.new.seat c.args.bench.now c.args.parcel t.ensures.works),
      tt,
    )

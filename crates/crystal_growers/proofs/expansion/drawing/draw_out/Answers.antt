-- What was added is drawn after the cells before it.
use Rattle.std.proofs.Common.{◌≡◌, ℕ, subst, List, [], Option, None, length, ◌<◌, rules}
use Rattle.crystal_growers.specs.Drawing.{HasDrawn, IsEnded}
use Rattle.crystal_growers.proofs.Acting.{works_then, works_drawn}
use Rattle.crystal_growers.proofs.Waiting.{ended_drawn, falls}
use Rattle.crystal_growers.proofs.expansion.drawing.draw_out.Goals as goal

pub lists-init : goal.lists-init
lists-init c =
    let d = c.in-Ok.drawn in
    record {
      works = works_drawn c.args.graph.now c.args.seat d.seat c.args.cells.now d.added.items d.full c.requires.can.belongs c.in-Ok.ensures.ok;
      ended = ended_drawn c.args.graph.now c.args.seat d.seat c.args.cells.now d.added.items c.requires d.full c.in-Ok.ensures.ok;
    }

pub returns-in-Err-draw_all-clause-fault : goal.returns-in-Err-draw_all-clause-fault
returns-in-Err-draw_all-clause-fault c =
    works_then c.args.graph.now c.args.seat c.lists.drawn.seat c.in-Err-draw_all.fault.seat [] [] [] [] c.lists.invariant.works c.in-Err-draw_all.ensures.fault

pub lists-smaller : goal.lists-smaller
lists-smaller c =
    let d = c.lists.drawn in
    let next = c.in-Ok-draw_all.next in
    let some : 0 < length d.added.items = search rules in
    let drawn = subst (λ (l : List ℕ). HasDrawn l d.seat next.seat next.added.items next.full) c.deref.ensures.value c.in-Ok-draw_all.ensures.ok in
    falls c.args.graph.now d.seat next.seat d.added.items next.added.items next.full c.lists.invariant.works.acted.belongs drawn some

pub lists-preserved : goal.lists-preserved
lists-preserved c =
    let d = c.lists.drawn in
    let next = c.in-Ok-draw_all.next in
    let none : d.full ≡ None = search rules in
    let waits = subst (λ (f : Option ℕ). IsEnded c.args.graph.now d.added.items d.seat f) none c.lists.invariant.ended in
    let drawn = subst (λ (l : List ℕ). HasDrawn l d.seat next.seat next.added.items next.full) c.deref.ensures.value c.in-Ok-draw_all.ensures.ok in
    record {
      works = works_then c.args.graph.now c.args.seat d.seat next.seat [] [] [] [] c.lists.invariant.works
          (works_drawn c.args.graph.now d.seat next.seat d.added.items next.added.items next.full c.lists.invariant.works.acted.belongs drawn);
      ended = ended_drawn c.args.graph.now d.seat next.seat d.added.items next.added.items waits next.full drawn;
    }

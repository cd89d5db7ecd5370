-- A part is drawn after those before it.
use Rattle.std.proofs.Common.{◌≡◌, ℕ, refl, sym, ap, subst, ◌∙◌, List, [], ◌++◌, Option, Some, None, Contains, append_assoc, rules}
use Rattle.std.proofs.lemmas.List.Elements.{All-contains, Contains-append_left, Contains-append_right}
use Rattle.graph_history.specs.History.{state_of, HasSome}
use Rattle.graph_rule.specs.Values.{SeatValue}
use Rattle.crystal_growers.specs.Drawing.{CanDraw, HasDrawn}
use Rattle.crystal_growers.specs.Grower.{HasWorked}
use Rattle.crystal_growers.proofs.DrawnCells.{drawn_none, drawn_then, can_next, drawn_part}
use Rattle.crystal_growers.proofs.Acting.{works_then, works_drawn}
use Rattle.crystal_growers.proofs.expansion.drawing.draw_all.Goals as goal

pub parts-init : goal.parts-init
parts-init c = record {
  before = [];
  is = refl;
  drawn = subst (λ (l : List ℕ). HasDrawn [] c.args.seat c.args.seat l None) (sym c.new-added.ensures.items) (drawn_none c.args.seat [] refl c.reveal.ensures.known c.reveal.ensures.complete c.requires.pledge);
}

pub draw_few-requires-clause-can : goal.draw_few-requires-clause-can
draw_few-requires-clause-can c =
    let i = c.parts.invariant in
    let split : c.args.cells.now ≡ i.before ++ (c.split_at.result.0.now ++ c.split_at.result.1.now) = i.is ∙ ap (λ (l : List ℕ). i.before ++ l) c.split_at.ensures.by_index.0 in
    can_next c.args.graph.now c.args.seat c.parts.seat c.parts.seat i.before c.split_at.result.0.now c.parts.added.items c.split_at.result.1.now
    (subst (λ (l : List ℕ). CanDraw c.args.graph.now l c.args.seat) split c.requires) i.drawn

pub returns-in-Err-clause-fault : goal.returns-in-Err-clause-fault
returns-in-Err-clause-fault c =
    let i = c.parts.invariant in
    subst (λ (s : SeatValue). HasWorked c.args.graph.now c.args.seat s [] []) (sym c.in-Err.ensures)
    (works_drawn c.args.graph.now c.args.seat c.parts.seat i.before c.parts.added.items None c.requires.belongs i.drawn)

pub returns-then-is_err-clause-fault : goal.returns-then-is_err-clause-fault
returns-then-is_err-clause-fault c =
    let i = c.parts.invariant in
    let before = works_drawn c.args.graph.now c.args.seat c.parts.seat i.before c.parts.added.items None c.requires.belongs i.drawn in
    works_then c.args.graph.now c.args.seat c.parts.seat c.in-Ok.drawn.seat [] [] [] [] before
    (works_drawn c.args.graph.now c.parts.seat c.in-Ok.drawn.seat c.split_at.result.0.now c.in-Ok.drawn.added.items c.in-Ok.drawn.full before.acted.belongs c.in-Ok.ensures)

pub returns-in-Some-clause-ok : goal.returns-in-Some-clause-ok
returns-in-Some-clause-ok c =
    let i = c.parts.invariant in
    let split : c.args.cells.now ≡ i.before ++ (c.split_at.result.0.now ++ c.split_at.result.1.now) = i.is ∙ ap (λ (l : List ℕ). i.before ++ l) c.split_at.ensures.by_index.0 in
    let added : c.extend_from_slice.new.self.items ≡ c.parts.added.items ++ c.in-Ok.drawn.added.items = search rules in
    let drawn = subst (λ (f : Option ℕ). HasDrawn c.split_at.result.0.now c.parts.seat c.in-Ok.drawn.seat c.in-Ok.drawn.added.items f) c.in-Some.is c.in-Ok.ensures in
    subst (λ (l : List ℕ). HasDrawn c.args.cells.now c.args.seat c.in-Ok.drawn.seat l (Some c.in-Some.code)) (sym added)
    (drawn_part c.args.graph.now c.args.seat c.parts.seat c.in-Ok.drawn.seat i.before c.split_at.result.0.now c.split_at.result.1.now c.parts.added.items c.in-Ok.drawn.added.items c.args.cells.now c.in-Some.code split c.requires i.drawn drawn)

pub parts-preserved : goal.parts-preserved
parts-preserved c =
    let i = c.parts.invariant in
    let split : c.args.cells.now ≡ i.before ++ (c.split_at.result.0.now ++ c.split_at.result.1.now) = i.is ∙ ap (λ (l : List ℕ). i.before ++ l) c.split_at.ensures.by_index.0 in
    let added : c.extend_from_slice.new.self.items ≡ c.parts.added.items ++ c.in-Ok.drawn.added.items = search rules in
    let none : c.in-Ok.drawn.full ≡ None = search rules in
    let drawn = subst (λ (f : Option ℕ). HasDrawn c.split_at.result.0.now c.parts.seat c.in-Ok.drawn.seat c.in-Ok.drawn.added.items f) none c.in-Ok.ensures in
    record {
      before = i.before ++ c.split_at.result.0.now;
      is = split ∙ sym (append_assoc i.before c.split_at.result.0.now c.split_at.result.1.now);
      drawn = subst (λ (l : List ℕ). HasDrawn (i.before ++ c.split_at.result.0.now) c.args.seat c.in-Ok.drawn.seat l None) (sym added)
          (drawn_then c.args.graph.now c.args.seat c.parts.seat c.in-Ok.drawn.seat i.before c.split_at.result.0.now c.parts.added.items c.in-Ok.drawn.added.items None i.drawn drawn
          (λ x h. All-contains (HasSome (state_of c.args.seat.view.front)) c.args.cells.now x c.requires.there
          (subst (λ (l : List ℕ). Contains l x) (sym split) (Contains-append_right i.before (c.split_at.result.0.now ++ c.split_at.result.1.now) x (Contains-append_left c.split_at.result.0.now c.split_at.result.1.now x h)))));
    }

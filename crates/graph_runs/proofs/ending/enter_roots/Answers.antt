use Rattle.std.proofs.Common.{◌+◌, ◌<◌, ◌≤◌, sym, subst, ap, ◌∙◌, rules, ℕ, List, [], length, take}
use Rattle.std.proofs.lemmas.List.{take_more, take_all}
use Rattle.graph_history.specs.declared.answer.Added.TheVariants.{New, Old}
use Rattle.graph_runs.specs.Ending.{IsEntering}
use Rattle.graph_runs.proofs.Entering.{entering_on, entered_full, entered_all}
use Rattle.graph_runs.proofs.ending.enter_roots.Goals.{in-New+in_ok-push-in-New, in-Old}
use Rattle.graph_runs.proofs.ending.enter_roots.Goals as goal

pub returns-in-Full : goal.returns-in-Full
returns-in-Full c =
    entered_full c.args.seat.now c.roots.seat c.add.new.seat c.args.cells.now.items c.roots.cells.items c.roots.cells.items (take c.roots.root-index c.as_slice-roots.result.now) [] _ c.add.result
    c.roots.invariant.entering c.in-Full.ensures.table c.add.ensures.entry c.args.graph.now.world c.in-Full.is

pub roots-preserved : goal.roots-preserved
roots-preserved c =
    let roots = c.as_slice-roots.result.now in
    let below : c.roots.root-index < length roots = search rules in
    let pushed = take_more roots c.roots.root-index 0 below in
    elim c.match-add.branch [
      | in-New+in_ok-push-in-New w ↦ record {
        entering = entering_on c.args.seat.now c.roots.seat c.add.new.seat c.args.cells.now.items c.roots.cells.items c.match-add.cells.items (take c.roots.root-index roots)
            (take (c.roots.root-index + 1) roots) _ (New w.in-New.cell) c.roots.invariant.entering w.in-New.ensures.table w.in-New.ensures.entry pushed (w.in-New.cell, w.in-New.ensures.exact)
            (ap (λ v. v.items) w.cells-is ∙ w.in_ok-push-in-New.ensures.items);
        all = c.roots.invariant.all;
      }
      | in-Old w ↦ record {
        entering = entering_on c.args.seat.now c.roots.seat c.add.new.seat c.args.cells.now.items c.roots.cells.items c.match-add.cells.items (take c.roots.root-index roots)
            (take (c.roots.root-index + 1) roots) _ (Old w.in-Old.cell) c.roots.invariant.entering w.in-Old.ensures.table w.in-Old.ensures.entry pushed (w.in-Old.cell, w.in-Old.ensures.exact)
            (ap (λ v. v.items) w.cells-is);
        all = c.roots.invariant.all;
      }
    ]

pub returns : goal.returns
returns c =
    let roots = c.as_slice-roots.result.now in
    let all : length roots ≤ c.roots.root-index = search rules in
    entered_all c.args.graph.now.world c.args.seat.now c.roots.seat c.args.cells.now.items c.roots.cells.items roots (sym c.roots.invariant.all)
    (subst (λ (l : List ℕ). IsEntering c.args.seat.now c.roots.seat c.args.cells.now.items c.roots.cells.items l) (take_all c.roots.root-index roots all) c.roots.invariant.entering)

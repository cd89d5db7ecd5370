use Rattle.std.proofs.Common.{◌<◌, sym, subst, ℕ, List, [], length, get_or, All, Contains}
use Rattle.std.proofs.lemmas.Result.{IfOk-at_ok}
use Rattle.tensor_words.specs.Worlds.{WorldType}
use Rattle.graph_history.specs.declared.event.Event.{Event}
use Rattle.session_desk.specs.Texts.{IsPrintable}
use Rattle.graph_runs.specs.Runs.{IsHistory}
use Rattle.graph_runs.specs.Beside.{IsGrowthOver}
use Rattle.graph_runs.specs.Seating.{IsSeated}
use Rattle.graph_runs.proofs.Seating.{all_back}
use Rattle.graph_runs.proofs.Telling.{may_grow, is_left, history, printable_last}
use Rattle.graph_runs.proofs.run.run_beside.Goals as goal

pub begin-requires-clause-rooted : goal.begin-requires-clause-rooted
begin-requires-clause-rooted g c = subst (λ (w : WorldType). All (Contains w.roots) c.args.starts.now) (sym c.in_ok-graph.ensures.world) c.requires.rooted

pub run_both-growth-requires-clause-can : goal.run_both-growth-requires-clause-can
run_both-growth-requires-clause-can g c κs within =
    let seated = (subst (λ (n : ℕ). IsSeated c.in_ok-graph.graph c.in_ok-seat.field-0.seat c.seat_all.new.seat n c.in_ok-sessions.sessions.items) c.len.ensures c.in_ok-sessions.ensures) in
    may_grow c.in_ok-graph.graph c.args.starts.now c.args.scripts.now c.in_ok-seat.field-0.seat c.seat_all.new.seat c.in_ok-seat.field-0.cells.items c.in_ok-sessions.sessions.items c.args.growers c.requires.few
    c.requires.growers.0 c.requires.growers.1 c.in_ok-seat.ensures seated

pub hear-requires-clause-waiting : goal.hear-requires-clause-waiting
hear-requires-clause-waiting g c =
    let seated = (subst (λ (n : ℕ). IsSeated c.in_ok-graph.graph c.in_ok-seat.field-0.seat c.seat_all.new.seat n c.in_ok-sessions.sessions.items) c.len.ensures c.in_ok-sessions.ensures) in
    let many = IfOk-at_ok _ c.in_ok-back.was c.run_both-growth.ensures.many in
    let each = IfOk-at_ok _ c.in_ok-back.was c.run_both-growth.ensures.each in
    all_back c.in_ok-graph.graph c.args.scripts.now c.in_ok-seat.field-0.seat c.seat_all.new.seat c.in_ok-sessions.sessions.items c.in_ok-back.field-0.items c.in_ok-seat.ensures.begins seated many each

pub end_run-requires-clause-left : goal.end_run-requires-clause-left
end_run-requires-clause-left g c κs within =
    let seated = (subst (λ (n : ℕ). IsSeated c.in_ok-graph.graph c.in_ok-seat.field-0.seat c.seat_all.new.seat n c.in_ok-sessions.sessions.items) c.len.ensures c.in_ok-sessions.ensures) in
    let growth = IfOk-at_ok (IsGrowthOver c.in_ok-graph.graph c.seat_all.new.seat c.in_ok-seat.field-0.cells.items c.args.growers) c.in_ok-seat-2.was c.run_both-growth.ensures.growth in
    is_left c.in_ok-graph.graph c.args.starts.now c.args.scripts.now c.in_ok-seat.field-0.seat c.seat_all.new.seat c.in_ok-seat.field-0.cells.items c.in_ok-sessions.sessions.items c.args.growers c.requires.few
    c.requires.growers.0 c.requires.growers.1 c.in_ok-seat.ensures seated c.in_ok-seat-2.field-0.seat c.hear.new.seat c.in_ok-seat-2.field-0.grown c.in_ok-told.field-0.told.items c.in_ok-told.field-0.cells.items
    growth.grown c.in_ok-told.ensures

pub returns-clause-history : goal.returns-clause-history
returns-clause-history g c =
    let seated = (subst (λ (n : ℕ). IsSeated c.in_ok-graph.graph c.in_ok-seat.field-0.seat c.seat_all.new.seat n c.in_ok-sessions.sessions.items) c.len.ensures c.in_ok-sessions.ensures) in
    let growth = IfOk-at_ok (IsGrowthOver c.in_ok-graph.graph c.seat_all.new.seat c.in_ok-seat.field-0.cells.items c.args.growers) c.in_ok-seat-2.was c.run_both-growth.ensures.growth in
    subst (λ (h : List Event). IsHistory c.args.world c.args.starts.now c.args.scripts.now h c.in_ok-told.field-0.told.items) (sym c.front.ensures.front)
    (subst (λ (w : WorldType). IsHistory w c.args.starts.now c.args.scripts.now c.end_run.new.seat.view.front c.in_ok-told.field-0.told.items) c.in_ok-graph.ensures.world
    (history c.in_ok-graph.graph c.args.starts.now c.args.scripts.now c.in_ok-seat.field-0.seat c.seat_all.new.seat c.in_ok-seat.field-0.cells.items c.in_ok-sessions.sessions.items c.args.growers c.requires.few
    c.requires.growers.0 c.requires.growers.1 c.in_ok-seat.ensures seated c.in_ok-seat-2.field-0.seat c.hear.new.seat c.in_ok-seat-2.field-0.grown c.in_ok-told.field-0.told.items c.in_ok-told.field-0.cells.items
    growth.grown c.in_ok-told.ensures
    c.end_run.new.seat c.in_ok-finished.finished c.in_ok-finished.ensures))

pub returns-clause-printable : goal.returns-clause-printable
returns-clause-printable g c =
    let seated = (subst (λ (n : ℕ). IsSeated c.in_ok-graph.graph c.in_ok-seat.field-0.seat c.seat_all.new.seat n c.in_ok-sessions.sessions.items) c.len.ensures c.in_ok-sessions.ensures) in
    let growth = IfOk-at_ok (IsGrowthOver c.in_ok-graph.graph c.seat_all.new.seat c.in_ok-seat.field-0.cells.items c.args.growers) c.in_ok-seat-2.was c.run_both-growth.ensures.growth in
    subst (λ (w : WorldType). (k : ℕ) → k < length c.args.scripts.now → All (IsPrintable w.space) (get_or c.in_ok-told.field-0.told.items k [])) c.in_ok-graph.ensures.world
    (printable_last c.in_ok-graph.graph c.args.starts.now c.args.scripts.now c.in_ok-seat.field-0.seat c.seat_all.new.seat c.in_ok-seat.field-0.cells.items c.in_ok-sessions.sessions.items c.args.growers c.requires.few
    c.requires.growers.0 c.requires.growers.1 c.in_ok-seat.ensures seated c.in_ok-seat-2.field-0.seat c.hear.new.seat c.in_ok-seat-2.field-0.grown c.in_ok-told.field-0.told.items c.in_ok-told.field-0.cells.items
    growth.grown c.in_ok-told.ensures
    c.end_run.new.seat c.in_ok-finished.finished c.in_ok-finished.ensures)

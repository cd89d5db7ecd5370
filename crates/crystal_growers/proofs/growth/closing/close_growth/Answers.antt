-- All came back, and what was left is drawn.
use Rattle.std.proofs.Common.{◌≡◌, ◌-◌, ap, arith}
use Rattle.std.proofs.lemmas.Result.{IfOk-weaker, on_err_weaker}
use Rattle.graph_history.specs.Views.{View}
use Rattle.crystal_growers.specs.Gathering.{IsNumberOf, HasDrawnRest}
use Rattle.crystal_growers.specs.Growth.{HasClosed}
use Rattle.crystal_growers.proofs.Coming.{lost_both, lost_grown}
use Rattle.crystal_growers.proofs.Beginning.{there_later}
use Rattle.crystal_growers.proofs.Closing.{are_home, still_unpaid, has_closed}
use Rattle.crystal_growers.proofs.growth.closing.close_growth.Goals as goal

pub draw_rest-requires-clause-stake : goal.draw_rest-requires-clause-stake
draw_rest-requires-clause-stake g c = let live = c.in_ok-benches.ensures.collected.live in let some = c.requires.some in omega arith

pub draw_rest-requires-clause-numbers : goal.draw_rest-requires-clause-numbers
draw_rest-requires-clause-numbers g c =
    let left : c.collect.new.seat.view.left ≡ c.args.seat.now.view.left - 0 = ap (λ (v : View). v.left) c.in_ok-benches.ensures.collected.grown.is in
    let some = c.requires.numbers in
    omega arith

pub draw_rest-requires-clause-home : goal.draw_rest-requires-clause-home
draw_rest-requires-clause-home g c = are_home c.in_ok-benches.field-0.benches.items c.gather.new.benches.items c.gather.ensures

pub draw_rest-requires-clause-there : goal.draw_rest-requires-clause-there
draw_rest-requires-clause-there g c = there_later c.args.seat.now.view.front c.collect.new.seat.view.front c.args.rest.now c.in_ok-benches.ensures.collected.grown.front c.requires.there

pub draw_rest-requires-clause-unpaid : goal.draw_rest-requires-clause-unpaid
draw_rest-requires-clause-unpaid g c = still_unpaid c.args.graph.now c.args.seat.now c.collect.new.seat c.args.starts.value.items c.in_ok-benches.field-0.benches.items c.in_ok-benches.field-0.full c.args.rest.now c.in_ok-benches.ensures.collected c.requires.unpaid

pub returns-clause-closed : goal.returns-clause-closed
returns-clause-closed g c =
    IfOk-weaker c.draw_rest.result (HasDrawnRest c.args.graph.now c.collect.new.seat c.draw_rest.new.seat c.gather.new.benches.items c.args.rest.now c.in_ok-benches.field-0.full)
    (HasClosed c.args.graph.now c.args.seat.now c.draw_rest.new.seat c.args.starts.value.items c.args.rest.now)
    (λ last f. has_closed c.args.graph.now c.args.seat.now c.collect.new.seat c.draw_rest.new.seat c.args.starts.value.items c.in_ok-benches.field-0.benches.items c.gather.new.benches.items c.args.rest.now c.in_ok-benches.field-0.full last
    c.in_ok-benches.ensures.collected c.gather.ensures f) c.draw_rest.ensures.finished

pub returns-clause-fault : goal.returns-clause-fault
returns-clause-fault g c =
    let p = c.in_ok-benches.ensures.collected in
    on_err_weaker c.draw_rest.result (lost_both c.args.seat.now c.collect.new.seat c.draw_rest.new.seat (lost_grown c.args.graph.now (IsNumberOf c.args.starts.value.items) c.args.seat.now c.collect.new.seat 0 p.news c.requires.belongs.table c.requires.pledge p.grown)) c.draw_rest.ensures.fault

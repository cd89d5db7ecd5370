use Rattle.std.proofs.Common.{ℕ, [], Some, None}
use Rattle.graph_history.specs.declared.event.Act.TheVariants.{Met, Missed}
use Rattle.wide_graph.proofs.Deciding.{found_in}
use Rattle.wide_graph.proofs.Looking.{ends_at}
use Rattle.wide_graph.proofs.Searching.{begins, probing_now, goes_on}
use Rattle.wide_graph.proofs.look_ups.find.Goals as goal

pub loop-step-init : goal.loop-step-init
loop-step-init c =
    begins c.args.seat.now c.args.graph.now c.args.code c.cells-cells.result c.home-cell.result c.requires.belongs c.cells-cells.ensures c.home-cell.ensures c.requires.idle

pub seek_cell-requires-clause-probing : goal.seek_cell-requires-clause-probing
seek_cell-requires-clause-probing c =
    probing_now c.args.seat.now c.loop-step.seat c.args.code c.loop-step.step c.loop-step.cell c.loop-step.invariant c.args.graph.now c.requires.belongs c.cells-cells.result c.cells-cells.ensures c.requires.code

pub returns-in-Found-clause-found : goal.returns-in-Found-clause-found
returns-in-Found-clause-found c =
    ends_at c.args.seat.now.view c.loop-step.seat.view c.loop-step.invariant.looked c.seek_cell.new.seat.view c.args.code (λ (y : ℕ). Met c.loop-step.cell y) [] c.in-Found.ensures.told

pub returns-in-Found-clause-exact : goal.returns-in-Found-clause-exact
returns-in-Found-clause-exact c =
    let entry = ends_at c.args.seat.now.view c.loop-step.seat.view c.loop-step.invariant.looked c.seek_cell.new.seat.view c.args.code (λ (y : ℕ). Met c.loop-step.cell y) [] c.in-Found.ensures.told in
    found_in c.args.seat.now c.args.graph.now c.requires.belongs c.seek_cell.new.seat.view c.args.code (Some c.loop-step.cell) entry

pub returns-in-Absent-clause-found : goal.returns-in-Absent-clause-found
returns-in-Absent-clause-found c =
    ends_at c.args.seat.now.view c.loop-step.seat.view c.loop-step.invariant.looked c.seek_cell.new.seat.view c.args.code (λ (y : ℕ). Missed y) [] c.in-Absent.ensures.told

pub returns-in-Absent-clause-exact : goal.returns-in-Absent-clause-exact
returns-in-Absent-clause-exact c =
    let entry = ends_at c.args.seat.now.view c.loop-step.seat.view c.loop-step.invariant.looked c.seek_cell.new.seat.view c.args.code (λ (y : ℕ). Missed y) [] c.in-Absent.ensures.told in
    found_in c.args.seat.now c.args.graph.now c.requires.belongs c.seek_cell.new.seat.view c.args.code None entry

pub loop-step-preserved : goal.loop-step-preserved
loop-step-preserved c =
    goes_on c.args.seat.now c.loop-step.seat c.args.code c.loop-step.step c.loop-step.cell c.loop-step.invariant c.args.graph.now c.requires.belongs c.cells-cells.result c.cells-cells.ensures c.seek_cell.new.seat c.following-cell.result c.in-Passed.ensures.table c.in-Passed.ensures.told c.following-cell.ensures

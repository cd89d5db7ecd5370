use Rattle.std.proofs.Common.{ℕ, [], ◌∷◌}
use Rattle.graph_history.specs.declared.event.Act.TheVariants.{Added as AddedAct, Met, Spent}
use Rattle.graph_history.specs.declared.answer.Added.TheVariants.{New, Old, Full}
use Rattle.wide_graph.proofs.Deciding.{added_in}
use Rattle.wide_graph.proofs.Looking.{ends_at}
use Rattle.wide_graph.proofs.Searching.{begins, origin_now, probing_now, goes_on}
use Rattle.wide_graph.proofs.entries.add.Goals as goal

pub loop-step-init : goal.loop-step-init
loop-step-init c =
    begins c.args.seat.now c.args.graph.now c.args.code c.cells-cells.result c.home-cell.result c.requires.belongs c.cells-cells.ensures c.home-cell.ensures c.requires.idle

pub try_cell-requires-clause-probing : goal.try_cell-requires-clause-probing
try_cell-requires-clause-probing c =
    probing_now c.args.seat.now c.loop-step.seat c.args.code c.loop-step.step c.loop-step.cell c.loop-step.invariant c.args.graph.now c.requires.belongs c.cells-cells.result c.cells-cells.ensures c.requires.code

pub try_cell-requires-clause-origin : goal.try_cell-requires-clause-origin
try_cell-requires-clause-origin c =
    origin_now c.args.seat.now c.loop-step.seat c.args.code c.loop-step.step c.loop-step.cell c.loop-step.invariant c.args.graph.now c.requires.belongs c.cells-cells.result c.cells-cells.ensures c.args.origin c.requires.origin

pub returns-in-Added-clause-entry : goal.returns-in-Added-clause-entry
returns-in-Added-clause-entry c =
    ends_at c.args.seat.now.view c.loop-step.seat.view c.loop-step.invariant.looked c.try_cell.new.seat.view c.args.code (λ (y : ℕ). AddedAct c.loop-step.cell y c.args.origin) (c.loop-step.cell ∷ []) c.in-Added.ensures.told

pub returns-in-Added-clause-exact : goal.returns-in-Added-clause-exact
returns-in-Added-clause-exact c =
    let entry = ends_at c.args.seat.now.view c.loop-step.seat.view c.loop-step.invariant.looked c.try_cell.new.seat.view c.args.code (λ (y : ℕ). AddedAct c.loop-step.cell y c.args.origin) (c.loop-step.cell ∷ []) c.in-Added.ensures.told in
    added_in c.args.seat.now c.args.graph.now c.requires.belongs c.try_cell.new.seat.view c.args.code c.args.origin (New c.loop-step.cell) entry

pub returns-in-Met-clause-entry : goal.returns-in-Met-clause-entry
returns-in-Met-clause-entry c =
    ends_at c.args.seat.now.view c.loop-step.seat.view c.loop-step.invariant.looked c.try_cell.new.seat.view c.args.code (λ (y : ℕ). Met c.loop-step.cell y) [] c.in-Met.ensures.told

pub returns-in-Met-clause-exact : goal.returns-in-Met-clause-exact
returns-in-Met-clause-exact c =
    let entry = ends_at c.args.seat.now.view c.loop-step.seat.view c.loop-step.invariant.looked c.try_cell.new.seat.view c.args.code (λ (y : ℕ). Met c.loop-step.cell y) [] c.in-Met.ensures.told in
    added_in c.args.seat.now c.args.graph.now c.requires.belongs c.try_cell.new.seat.view c.args.code c.args.origin (Old c.loop-step.cell) entry

pub returns-in-Spent-clause-entry : goal.returns-in-Spent-clause-entry
returns-in-Spent-clause-entry c =
    ends_at c.args.seat.now.view c.loop-step.seat.view c.loop-step.invariant.looked c.try_cell.new.seat.view c.args.code (λ (y : ℕ). Spent y) [] c.in-Spent.ensures.told

pub returns-in-Spent-clause-exact : goal.returns-in-Spent-clause-exact
returns-in-Spent-clause-exact c =
    let entry = ends_at c.args.seat.now.view c.loop-step.seat.view c.loop-step.invariant.looked c.try_cell.new.seat.view c.args.code (λ (y : ℕ). Spent y) [] c.in-Spent.ensures.told in
    added_in c.args.seat.now c.args.graph.now c.requires.belongs c.try_cell.new.seat.view c.args.code c.args.origin Full entry

pub loop-step-preserved : goal.loop-step-preserved
loop-step-preserved c =
    goes_on c.args.seat.now c.loop-step.seat c.args.code c.loop-step.step c.loop-step.cell c.loop-step.invariant c.args.graph.now c.requires.belongs c.cells-cells.result c.cells-cells.ensures c.try_cell.new.seat c.following-cell.result c.in-Passed.ensures.table c.in-Passed.ensures.told c.following-cell.ensures

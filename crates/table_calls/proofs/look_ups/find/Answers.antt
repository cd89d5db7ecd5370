use Rattle.std.proofs.Common.{refl, subst, List}
use Rattle.graph_history.specs.declared.event.Act.{Act}
use Rattle.graph_rule.specs.Told.{Advances}
use Rattle.table_calls.proofs.Acts.{sought_empty, sought_last, sought_on}
use Rattle.table_calls.proofs.Searching.{begins_at, is_last_now, is_not_last, on_next, missed_new}
use Rattle.table_calls.proofs.look_ups.find.Goals as goal

pub loop-step-init : goal.loop-step-init
loop-step-init c =
    begins_at c.args.seat.now c.args.graph.now c.world.result.now c.args.code c.cells-cells.result _ c.requires.belongs c.world.ensures.value c.cells-cells.ensures.world c.cells-cells.ensures.cells c.home-cell.ensures.is

pub returns-then-word-eq0-clause-exact : goal.returns-then-word-eq0-clause-exact
returns-then-word-eq0-clause-exact c =
    let now = c.loop-step.seat.view in
    missed_new now c.seek-word.new.seat.view c.args.code now.dues
    (subst (λ (l : List Act). Advances now c.seek-word.new.seat.view l now.dues) (sought_empty now.world c.loop-step.cell c.args.code c.seek-word.result c.if-word-eq0.true) c.seek-word.ensures.view)

pub returns-then-step-cells-clause-exact : goal.returns-then-step-cells-clause-exact
returns-then-step-cells-clause-exact c =
    let now = c.loop-step.seat.view in
    let last =
    is_last_now c.args.seat.now c.loop-step.seat c.args.code c.loop-step.step c.loop-step.cell c.loop-step.invariant c.args.graph.now c.world.result.now c.cells-cells.result c.requires.belongs c.world.ensures.value c.cells-cells.ensures.cells
    c.if-step-cells.true in
    missed_new now c.seek-word.new.seat.view c.args.code now.dues
    (subst (λ (l : List Act). Advances now c.seek-word.new.seat.view l now.dues) (sought_last now.world c.loop-step.cell c.args.code c.seek-word.result c.if-word-eq0.false c.if-word-code.false last) c.seek-word.ensures.view)

pub loop-step-preserved : goal.loop-step-preserved
loop-step-preserved c =
    let now = c.loop-step.seat.view in
    let more =
    is_not_last c.args.seat.now c.loop-step.seat c.args.code c.loop-step.step c.loop-step.cell c.loop-step.invariant c.args.graph.now c.world.result.now c.cells-cells.result c.requires.belongs c.world.ensures.value c.cells-cells.ensures.cells
    c.if-step-cells.false in
    on_next c.args.seat.now c.loop-step.seat c.args.code c.loop-step.step c.loop-step.cell c.loop-step.invariant c.args.graph.now c.world.result.now c.cells-cells.result c.requires.belongs c.world.ensures.value c.cells-cells.ensures.cells
    c.seek-word.new.seat c.seek-word.result _ _ _ (sought_on now.world c.loop-step.cell c.args.code c.seek-word.result c.if-word-eq0.false c.if-word-code.false more) refl c.seek-word.ensures.view c.seek-word.ensures.table c.seek-word.ensures.word
    c.if-word-eq0.false c.if-word-code.false c.if-step-cells.false c.following-cell.ensures

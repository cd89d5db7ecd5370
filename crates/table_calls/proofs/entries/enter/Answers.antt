use Rattle.table_calls.proofs.Acts.{claimed_on, dues_left}
use Rattle.table_calls.proofs.Searching.{origin_now, is_last_now, on_next, beaten, ends_full}
use Rattle.table_calls.proofs.entries.enter.Goals as goal

pub claim-word-requires-clause-origin : goal.claim-word-requires-clause-origin
claim-word-requires-clause-origin c = origin_now c.args.seat.now c.loop-step.seat c.args.code c.loop-step.step c.loop-step.cell c.loop-step.invariant c.args.origin c.requires.origin

pub seek_room-word-requires-clause-searched : goal.seek_room-word-requires-clause-searched
seek_room-word-requires-clause-searched c =
    let lost = beaten c.args.seat.now c.loop-step.seat c.args.code c.loop-step.step c.loop-step.cell c.loop-step.invariant c.args.origin c.claim-word.new.seat c.claim-word.result c.if-word-eq0.false c.if-word-code.false c.claim-word.ensures.view
    c.claim-word.ensures.word c.claim-word.ensures.table in
    lost.0.at.searched

pub seek_room-word-requires-clause-origin : goal.seek_room-word-requires-clause-origin
seek_room-word-requires-clause-origin c =
    let lost = beaten c.args.seat.now c.loop-step.seat c.args.code c.loop-step.step c.loop-step.cell c.loop-step.invariant c.args.origin c.claim-word.new.seat c.claim-word.result c.if-word-eq0.false c.if-word-code.false c.claim-word.ensures.view
    c.claim-word.ensures.word c.claim-word.ensures.table in
    origin_now c.args.seat.now c.claim-word.new.seat c.args.code c.loop-step.step c.loop-step.cell lost.0 c.args.origin c.requires.origin

pub returns-then-step-cells-clause-told : goal.returns-then-step-cells-clause-told
returns-then-step-cells-clause-told c =
    let lost = beaten c.args.seat.now c.loop-step.seat c.args.code c.loop-step.step c.loop-step.cell c.loop-step.invariant c.args.origin c.claim-word.new.seat c.claim-word.result c.if-word-eq0.false c.if-word-code.false c.claim-word.ensures.view
    c.claim-word.ensures.word c.claim-word.ensures.table in
    let last =
    is_last_now c.args.seat.now c.claim-word.new.seat c.args.code c.loop-step.step c.loop-step.cell lost.0 c.args.graph.now c.world.result.now c.cells-cells.result c.requires.belongs c.world.ensures.value c.cells-cells.ensures.cells
    c.if-step-cells.true in
    ends_full c.args.seat.now c.claim-word.new.seat c.args.code c.loop-step.step c.loop-step.cell lost.0 c.seek_room-word.new.seat c.seek_room-word.result lost.1 last c.seek_room-word.ensures.view c.seek_room-word.ensures.word

pub loop-step-preserved : goal.loop-step-preserved
loop-step-preserved c =
    on_next c.args.seat.now c.loop-step.seat c.args.code c.loop-step.step c.loop-step.cell c.loop-step.invariant c.args.graph.now c.world.result.now c.cells-cells.result c.requires.belongs c.world.ensures.value c.cells-cells.ensures.cells
    c.claim-word.new.seat c.claim-word.result _ _ _ (claimed_on c.loop-step.seat.view.world c.loop-step.cell c.args.code c.claim-word.result c.args.origin c.if-word-eq0.false c.if-word-code.false)
    (dues_left c.loop-step.cell c.claim-word.result c.loop-step.seat.view.dues c.if-word-eq0.false) c.claim-word.ensures.view c.claim-word.ensures.table (c.claim-word.ensures.word c.if-word-eq0.false) c.if-word-eq0.false c.if-word-code.false
    c.if-step-cells.false c.following-cell.ensures

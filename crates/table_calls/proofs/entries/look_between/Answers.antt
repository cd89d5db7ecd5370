use Rattle.std.proofs.Common.{◌≡◌, ◌≢◌, refl, sym, ap, subst, ◌∙◌, ℕ, ◌+◌, ◌-◌, ◌<◌, ◌≤◌, ◌%◌, rules, arith}
use Rattle.table_calls.specs.Search.{Searching}
use Rattle.table_calls.proofs.Acts.{looked_empty, looked_on}
use Rattle.table_calls.proofs.Stretches.{straight_cell}
use Rattle.table_calls.proofs.Searching.{from_here, moved_to, cell_below, cells_now, origin_now, is_not_last, on_next, stays_here}
use Rattle.table_calls.proofs.entries.look_between.Goals as goal

pub loop-step-init : goal.loop-step-init
loop-step-init c =
    let here = from_here c.args.seat.now c.args.code c.args.from c.args.cell c.requires.at in
    let fits = cell_below c.args.seat.now c.args.seat.now c.args.code c.args.from c.args.cell here in
    let count = cells_now c.args.seat.now c.args.seat.now c.args.code c.args.from c.args.cell here c.args.graph.now c.args.graph.now.world c.args.graph.now.world.cells c.requires.belongs refl refl in
    let low : c.args.cell + (c.args.from - c.args.from) < c.args.graph.now.world.cells = omega arith in
    let same : c.args.cell ≡ c.args.cell + (c.args.from - c.args.from) = omega arith in
    moved_to c.args.seat.now c.args.seat.now c.args.code c.args.from c.args.cell ((c.args.cell + (c.args.from - c.args.from)) % c.args.graph.now.world.cells) here (same ∙ sym (straight_cell c.args.cell (c.args.from - c.args.from) c.args.graph.now.world.cells low))

pub seek_room-word-requires-clause-searched : goal.seek_room-word-requires-clause-searched
seek_room-word-requires-clause-searched c =
    let from : c.args.from ≤ c.loop-step.step = search rules in
    let less : c.loop-step.step < c.args.to = search rules in
    let straight = c.requires.straight in
    let low : (c.args.cell + (c.loop-step.step - c.args.from)) < c.args.graph.now.world.cells = omega arith in
    let s = moved_to c.args.seat.now c.loop-step.seat c.args.code c.loop-step.step ((c.args.cell + (c.loop-step.step - c.args.from)) % c.args.graph.now.world.cells) (c.args.cell + (c.loop-step.step - c.args.from)) c.loop-step.invariant (straight_cell c.args.cell (c.loop-step.step - c.args.from) c.args.graph.now.world.cells low) in
    s.at.searched

pub seek_room-word-requires-clause-origin : goal.seek_room-word-requires-clause-origin
seek_room-word-requires-clause-origin c =
    let from : c.args.from ≤ c.loop-step.step = search rules in
    let less : c.loop-step.step < c.args.to = search rules in
    let straight = c.requires.straight in
    let low : (c.args.cell + (c.loop-step.step - c.args.from)) < c.args.graph.now.world.cells = omega arith in
    let s = moved_to c.args.seat.now c.loop-step.seat c.args.code c.loop-step.step ((c.args.cell + (c.loop-step.step - c.args.from)) % c.args.graph.now.world.cells) (c.args.cell + (c.loop-step.step - c.args.from)) c.loop-step.invariant (straight_cell c.args.cell (c.loop-step.step - c.args.from) c.args.graph.now.world.cells low) in
    origin_now c.args.seat.now c.loop-step.seat c.args.code c.loop-step.step (c.args.cell + (c.loop-step.step - c.args.from)) s c.args.origin c.requires.origin

pub returns-then-word-eq0-clause-told : goal.returns-then-word-eq0-clause-told
returns-then-word-eq0-clause-told c =
    let from : c.args.from ≤ c.loop-step.step = search rules in
    let less : c.loop-step.step < c.args.to = search rules in
    let straight = c.requires.straight in
    let low : (c.args.cell + (c.loop-step.step - c.args.from)) < c.args.graph.now.world.cells = omega arith in
    let s = moved_to c.args.seat.now c.loop-step.seat c.args.code c.loop-step.step ((c.args.cell + (c.loop-step.step - c.args.from)) % c.args.graph.now.world.cells) (c.args.cell + (c.loop-step.step - c.args.from)) c.loop-step.invariant (straight_cell c.args.cell (c.loop-step.step - c.args.from) c.args.graph.now.world.cells low) in
    let acts = looked_empty c.loop-step.seat.view.world (c.args.cell + (c.loop-step.step - c.args.from)) c.args.code c.seek_room-word.result c.if-word-eq0.true in
    let t = stays_here c.args.seat.now c.loop-step.seat c.args.code c.loop-step.step (c.args.cell + (c.loop-step.step - c.args.from)) s c.seek_room-word.new.seat c.seek_room-word.result _ _ acts refl c.seek_room-word.ensures.view c.seek_room-word.ensures.word c.seek_room-word.ensures.table in
    (t.watched, t.at)

pub loop-step-preserved : goal.loop-step-preserved
loop-step-preserved c =
    let from : c.args.from ≤ c.loop-step.step = search rules in
    let less : c.loop-step.step < c.args.to = search rules in
    let straight = c.requires.straight in
    let low : (c.args.cell + (c.loop-step.step - c.args.from)) < c.args.graph.now.world.cells = omega arith in
    let s = moved_to c.args.seat.now c.loop-step.seat c.args.code c.loop-step.step ((c.args.cell + (c.loop-step.step - c.args.from)) % c.args.graph.now.world.cells) (c.args.cell + (c.loop-step.step - c.args.from)) c.loop-step.invariant (straight_cell c.args.cell (c.loop-step.step - c.args.from) c.args.graph.now.world.cells low) in
    let steps = c.requires.steps in
    let further : c.loop-step.step + 1 ≢ c.args.graph.now.world.cells = λ e. omega arith in
    let more = is_not_last c.args.seat.now c.loop-step.seat c.args.code c.loop-step.step (c.args.cell + (c.loop-step.step - c.args.from)) s c.args.graph.now c.args.graph.now.world c.args.graph.now.world.cells c.requires.belongs refl refl further in
    let on : (c.args.cell + (c.loop-step.step - c.args.from)) + 1 ≡ c.args.cell + (c.loop-step.step + 1 - c.args.from) = omega arith in
    on_next c.args.seat.now c.loop-step.seat c.args.code c.loop-step.step (c.args.cell + (c.loop-step.step - c.args.from)) s c.args.graph.now c.args.graph.now.world c.args.graph.now.world.cells c.requires.belongs refl refl c.seek_room-word.new.seat c.seek_room-word.result ((c.args.cell + (c.loop-step.step + 1 - c.args.from)) % c.args.graph.now.world.cells) _ _
    (looked_on c.loop-step.seat.view.world (c.args.cell + (c.loop-step.step - c.args.from)) c.args.code c.seek_room-word.result c.if-word-eq0.false c.if-word-code.false more) refl c.seek_room-word.ensures.view c.seek_room-word.ensures.table c.seek_room-word.ensures.word
    c.if-word-eq0.false c.if-word-code.false further (ap (λ (m : ℕ). m % c.args.graph.now.world.cells) (sym on))

pub returns-clause-told : goal.returns-clause-told
returns-clause-told c =
    let end : c.loop-step.step ≡ c.args.to = search rules in
    subst (λ (k : ℕ). Searching c.args.seat.now c.loop-step.seat c.args.code k ((c.args.cell + (k - c.args.from)) % c.args.graph.now.world.cells)) end c.loop-step.invariant

use Rattle.std.proofs.Common.{refl, [], ◌∷◌}
use Rattle.graph_history.specs.declared.event.Act.TheVariants.{Spent}
use Rattle.wide_words.specs.WideSpaces.{number}
use Rattle.wide_graph.proofs.Looking.{probing_looked, origin_looked, tries_then}
use Rattle.wide_graph.proofs.Trying.{first_empty, first_half, half_seen, first_passed, first_last}
use Rattle.wide_graph.proofs.entries.try_cell.Goals as goal

pub take_cell-requires-clause-probing : goal.take_cell-requires-clause-probing
take_cell-requires-clause-probing c =
    let looked = first_empty c.args.seat.now.view c.seek_room_first-word.new.seat.view c.args.cell c.seek_room_first-word.result c.args.code c.args.last c.requires.probing.ends [] (Spent (number c.args.seat.now.view.world.space c.args.code) ∷ []) c.seek_room_first-word.ensures.view refl c.if-word-eq0.true in
    probing_looked c.args.graph.now c.args.seat.now c.seek_room_first-word.new.seat c.args.code c.args.cell c.args.last c.requires.probing c.seek_room_first-word.ensures.table looked

pub take_cell-requires-clause-origin : goal.take_cell-requires-clause-origin
take_cell-requires-clause-origin c =
    let looked = first_empty c.args.seat.now.view c.seek_room_first-word.new.seat.view c.args.cell c.seek_room_first-word.result c.args.code c.args.last c.requires.probing.ends [] (Spent (number c.args.seat.now.view.world.space c.args.code) ∷ []) c.seek_room_first-word.ensures.view refl c.if-word-eq0.true in
    origin_looked c.args.seat.now.view c.seek_room_first-word.new.seat.view looked c.args.code c.args.origin c.requires.origin

pub returns-then-word-eq0-clause-told : goal.returns-then-word-eq0-clause-told
returns-then-word-eq0-clause-told c =
    let looked = first_empty c.args.seat.now.view c.seek_room_first-word.new.seat.view c.args.cell c.seek_room_first-word.result c.args.code c.args.last c.requires.probing.ends [] (Spent (number c.args.seat.now.view.world.space c.args.code) ∷ []) c.seek_room_first-word.ensures.view refl c.if-word-eq0.true in
    tries_then c.args.seat.now.view c.seek_room_first-word.new.seat.view looked c.take_cell.new.seat.view c.args.cell c.args.code c.args.origin c.args.last c.take_cell.result c.take_cell.ensures.told

pub try_half-requires-clause-probing : goal.try_half-requires-clause-probing
try_half-requires-clause-probing c =
    let looked = first_half c.args.seat.now.view c.seek_room_first-word.new.seat.view c.args.cell c.seek_room_first-word.result c.args.code c.args.last c.requires.probing.ends [] (Spent (number c.args.seat.now.view.world.space c.args.code) ∷ []) c.seek_room_first-word.ensures.view c.if-word-eq0.false c.if-word-code.true in
    probing_looked c.args.graph.now c.args.seat.now c.seek_room_first-word.new.seat c.args.code c.args.cell c.args.last c.requires.probing c.seek_room_first-word.ensures.table looked

pub try_half-requires-clause-origin : goal.try_half-requires-clause-origin
try_half-requires-clause-origin c =
    let looked = first_half c.args.seat.now.view c.seek_room_first-word.new.seat.view c.args.cell c.seek_room_first-word.result c.args.code c.args.last c.requires.probing.ends [] (Spent (number c.args.seat.now.view.world.space c.args.code) ∷ []) c.seek_room_first-word.ensures.view c.if-word-eq0.false c.if-word-code.true in
    origin_looked c.args.seat.now.view c.seek_room_first-word.new.seat.view looked c.args.code c.args.origin c.requires.origin

pub try_half-requires-clause-half : goal.try_half-requires-clause-half
try_half-requires-clause-half c =
    half_seen c.args.seat.now.view c.seek_room_first-word.new.seat.view c.args.cell c.seek_room_first-word.result c.args.code c.args.last c.requires.probing.ends [] (Spent (number c.args.seat.now.view.world.space c.args.code) ∷ []) c.seek_room_first-word.ensures.view c.if-word-eq0.false c.if-word-code.true

pub returns-then-word-code-clause-told : goal.returns-then-word-code-clause-told
returns-then-word-code-clause-told c =
    let looked = first_half c.args.seat.now.view c.seek_room_first-word.new.seat.view c.args.cell c.seek_room_first-word.result c.args.code c.args.last c.requires.probing.ends [] (Spent (number c.args.seat.now.view.world.space c.args.code) ∷ []) c.seek_room_first-word.ensures.view c.if-word-eq0.false c.if-word-code.true in
    tries_then c.args.seat.now.view c.seek_room_first-word.new.seat.view looked c.try_half.new.seat.view c.args.cell c.args.code c.args.origin c.args.last c.try_half.result c.try_half.ensures.told

pub returns-then-last-clause-told : goal.returns-then-last-clause-told
returns-then-last-clause-told c =
    first_last c.args.seat.now.view c.seek_room_first-word.new.seat.view c.args.cell c.seek_room_first-word.result c.args.code c.args.last c.requires.probing.ends [] (Spent (number c.args.seat.now.view.world.space c.args.code) ∷ []) c.seek_room_first-word.ensures.view
    (Spent (number c.args.seat.now.view.world.space c.args.code)) refl c.if-word-eq0.false c.if-word-code.false c.if-last.true c.requires.idle

pub returns-else-last-clause-told : goal.returns-else-last-clause-told
returns-else-last-clause-told c =
    first_passed c.args.seat.now.view c.seek_room_first-word.new.seat.view c.args.cell c.seek_room_first-word.result c.args.code c.args.last c.requires.probing.ends [] (Spent (number c.args.seat.now.view.world.space c.args.code) ∷ []) c.seek_room_first-word.ensures.view
    c.if-word-eq0.false c.if-word-code.false c.if-last.false c.requires.idle

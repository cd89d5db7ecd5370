use Rattle.std.proofs.Common.{refl, [], ◌∷◌}
use Rattle.graph_history.specs.declared.event.Act.TheVariants.{Missed}
use Rattle.wide_words.specs.WideSpaces.{number}
use Rattle.wide_graph.proofs.Looking.{probing_looked, seeks_then}
use Rattle.wide_graph.proofs.Trying.{first_half, half_seen, first_passed, first_last}
use Rattle.wide_graph.proofs.look_ups.seek_cell.Goals as goal

pub seek_half-requires-clause-probing : goal.seek_half-requires-clause-probing
seek_half-requires-clause-probing c =
    let looked = first_half c.args.seat.now.view c.seek_first-word.new.seat.view c.args.cell c.seek_first-word.result c.args.code c.args.last c.requires.probing.ends (Missed (number c.args.seat.now.view.world.space c.args.code) ∷ []) (Missed (number c.args.seat.now.view.world.space c.args.code) ∷ []) c.seek_first-word.ensures.view c.if-word-eq0.false c.if-word-code.true in
    probing_looked c.args.graph.now c.args.seat.now c.seek_first-word.new.seat c.args.code c.args.cell c.args.last c.requires.probing c.seek_first-word.ensures.table looked

pub seek_half-requires-clause-half : goal.seek_half-requires-clause-half
seek_half-requires-clause-half c =
    half_seen c.args.seat.now.view c.seek_first-word.new.seat.view c.args.cell c.seek_first-word.result c.args.code c.args.last c.requires.probing.ends (Missed (number c.args.seat.now.view.world.space c.args.code) ∷ []) (Missed (number c.args.seat.now.view.world.space c.args.code) ∷ []) c.seek_first-word.ensures.view c.if-word-eq0.false c.if-word-code.true

pub returns-then-word-code-clause-told : goal.returns-then-word-code-clause-told
returns-then-word-code-clause-told c =
    let looked = first_half c.args.seat.now.view c.seek_first-word.new.seat.view c.args.cell c.seek_first-word.result c.args.code c.args.last c.requires.probing.ends (Missed (number c.args.seat.now.view.world.space c.args.code) ∷ []) (Missed (number c.args.seat.now.view.world.space c.args.code) ∷ []) c.seek_first-word.ensures.view c.if-word-eq0.false c.if-word-code.true in
    seeks_then c.args.seat.now.view c.seek_first-word.new.seat.view looked c.seek_half.new.seat.view c.args.cell c.args.code c.args.last c.seek_half.result c.seek_half.ensures.told

pub returns-then-last-clause-told : goal.returns-then-last-clause-told
returns-then-last-clause-told c =
    first_last c.args.seat.now.view c.seek_first-word.new.seat.view c.args.cell c.seek_first-word.result c.args.code c.args.last c.requires.probing.ends (Missed (number c.args.seat.now.view.world.space c.args.code) ∷ []) (Missed (number c.args.seat.now.view.world.space c.args.code) ∷ []) c.seek_first-word.ensures.view
    (Missed (number c.args.seat.now.view.world.space c.args.code)) refl c.if-word-eq0.false c.if-word-code.false c.if-last.true c.requires.idle

pub returns-else-last-clause-told : goal.returns-else-last-clause-told
returns-else-last-clause-told c =
    first_passed c.args.seat.now.view c.seek_first-word.new.seat.view c.args.cell c.seek_first-word.result c.args.code c.args.last c.requires.probing.ends (Missed (number c.args.seat.now.view.world.space c.args.code) ∷ []) (Missed (number c.args.seat.now.view.world.space c.args.code) ∷ []) c.seek_first-word.ensures.view
    c.if-word-eq0.false c.if-word-code.false c.if-last.false c.requires.idle

use Rattle.std.proofs.Common.{refl, [], ◌∷◌}
use Rattle.graph_history.specs.declared.event.Act.TheVariants.{Met, Spent}
use Rattle.wide_words.specs.WideSpaces.{number}
use Rattle.wide_graph.proofs.Looking.{probing_looked, origin_looked, tries_then}
use Rattle.wide_graph.proofs.Trying.{second_empty, second_passed}
use Rattle.wide_graph.proofs.entries.try_half.Goals as goal

pub finish_half-requires-clause-probing : goal.finish_half-requires-clause-probing
finish_half-requires-clause-probing c =
    let looked = second_empty c.args.seat.now.view c.seek_room_second-word.new.seat.view c.args.cell c.seek_room_second-word.result c.args.code c.args.last c.requires.probing.ends [] (Met c.args.cell (number c.args.seat.now.view.world.space c.args.code) ∷ []) (Spent (number c.args.seat.now.view.world.space c.args.code) ∷ []) c.seek_room_second-word.ensures.view refl c.if-word-eq0.true in
    probing_looked c.args.graph.now c.args.seat.now c.seek_room_second-word.new.seat c.args.code c.args.cell c.args.last c.requires.probing c.seek_room_second-word.ensures.table looked

pub finish_half-requires-clause-origin : goal.finish_half-requires-clause-origin
finish_half-requires-clause-origin c =
    let looked = second_empty c.args.seat.now.view c.seek_room_second-word.new.seat.view c.args.cell c.seek_room_second-word.result c.args.code c.args.last c.requires.probing.ends [] (Met c.args.cell (number c.args.seat.now.view.world.space c.args.code) ∷ []) (Spent (number c.args.seat.now.view.world.space c.args.code) ∷ []) c.seek_room_second-word.ensures.view refl c.if-word-eq0.true in
    origin_looked c.args.seat.now.view c.seek_room_second-word.new.seat.view looked c.args.code c.args.origin c.requires.origin

pub returns-then-word-eq0-clause-told : goal.returns-then-word-eq0-clause-told
returns-then-word-eq0-clause-told c =
    let looked = second_empty c.args.seat.now.view c.seek_room_second-word.new.seat.view c.args.cell c.seek_room_second-word.result c.args.code c.args.last c.requires.probing.ends [] (Met c.args.cell (number c.args.seat.now.view.world.space c.args.code) ∷ []) (Spent (number c.args.seat.now.view.world.space c.args.code) ∷ []) c.seek_room_second-word.ensures.view refl c.if-word-eq0.true in
    tries_then c.args.seat.now.view c.seek_room_second-word.new.seat.view looked c.finish_half.new.seat.view c.args.cell c.args.code c.args.origin c.args.last c.finish_half.result c.finish_half.ensures.told

pub returns-else-last-clause-told : goal.returns-else-last-clause-told
returns-else-last-clause-told c =
    second_passed c.args.seat.now.view c.seek_room_second-word.new.seat.view c.args.cell c.seek_room_second-word.result c.args.code c.args.last c.requires.probing.ends
    [] (Met c.args.cell (number c.args.seat.now.view.world.space c.args.code) ∷ []) (Spent (number c.args.seat.now.view.world.space c.args.code) ∷ []) c.seek_room_second-word.ensures.view c.requires.probing.code c.seek_room_second-word.ensures.word c.if-word-eq0.false c.if-word-code.false c.if-last.false c.requires.idle

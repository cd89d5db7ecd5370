use Rattle.std.proofs.Common.{refl}
use Rattle.table_calls.proofs.Acts.{looked_empty}
use Rattle.table_calls.proofs.Searching.{from_here, stays_here}
use Rattle.table_calls.proofs.entries.look_at_last.Goals as goal

pub returns-then-word-eq0-clause-told : goal.returns-then-word-eq0-clause-told
returns-then-word-eq0-clause-told c =
    let here = from_here c.args.seat.now c.args.code c.args.last c.args.cell c.requires.at in
    let acts = looked_empty c.args.seat.now.view.world c.args.cell c.args.code c.seek_room-word.result c.if-word-eq0.true in
    let s = stays_here c.args.seat.now c.args.seat.now c.args.code c.args.last c.args.cell here c.seek_room-word.new.seat c.seek_room-word.result _ _ acts refl c.seek_room-word.ensures.view c.seek_room-word.ensures.word c.seek_room-word.ensures.table in
    (s.watched, s.at)

use Rattle.wide_graph.proofs.Looking.{probing_looked, origin_looked, tries_then}
use Rattle.wide_graph.proofs.Trying.{tried_looked, won_has, lost_half, lost_passed, lost_last}
use Rattle.wide_graph.proofs.entries.take_cell.Goals as goal

pub finish_half-requires-clause-probing : goal.finish_half-requires-clause-probing
finish_half-requires-clause-probing c =
    let looked = tried_looked c.args.seat.now.view c.claim_first-word.new.seat.view c.args.cell c.claim_first-word.result c.args.code c.claim_first-word.ensures.view in
    probing_looked c.args.graph.now c.args.seat.now c.claim_first-word.new.seat c.args.code c.args.cell c.args.last c.requires.probing c.claim_first-word.ensures.table looked

pub finish_half-requires-clause-origin : goal.finish_half-requires-clause-origin
finish_half-requires-clause-origin c =
    let looked = tried_looked c.args.seat.now.view c.claim_first-word.new.seat.view c.args.cell c.claim_first-word.result c.args.code c.claim_first-word.ensures.view in
    origin_looked c.args.seat.now.view c.claim_first-word.new.seat.view looked c.args.code c.args.origin c.requires.origin

pub finish_half-requires-clause-half : goal.finish_half-requires-clause-half
finish_half-requires-clause-half c =
    won_has c.args.seat.now.view c.claim_first-word.new.seat.view c.args.cell c.claim_first-word.result c.args.code c.claim_first-word.ensures.view c.if-word-eq0.true

pub returns-then-word-eq0-clause-told : goal.returns-then-word-eq0-clause-told
returns-then-word-eq0-clause-told c =
    let looked = tried_looked c.args.seat.now.view c.claim_first-word.new.seat.view c.args.cell c.claim_first-word.result c.args.code c.claim_first-word.ensures.view in
    tries_then c.args.seat.now.view c.claim_first-word.new.seat.view looked c.finish_half.new.seat.view c.args.cell c.args.code c.args.origin c.args.last c.finish_half.result c.finish_half.ensures.told

pub try_half-requires-clause-probing : goal.try_half-requires-clause-probing
try_half-requires-clause-probing c =
    let looked = tried_looked c.args.seat.now.view c.claim_first-word.new.seat.view c.args.cell c.claim_first-word.result c.args.code c.claim_first-word.ensures.view in
    probing_looked c.args.graph.now c.args.seat.now c.claim_first-word.new.seat c.args.code c.args.cell c.args.last c.requires.probing c.claim_first-word.ensures.table looked

pub try_half-requires-clause-origin : goal.try_half-requires-clause-origin
try_half-requires-clause-origin c =
    let looked = tried_looked c.args.seat.now.view c.claim_first-word.new.seat.view c.args.cell c.claim_first-word.result c.args.code c.claim_first-word.ensures.view in
    origin_looked c.args.seat.now.view c.claim_first-word.new.seat.view looked c.args.code c.args.origin c.requires.origin

pub try_half-requires-clause-half : goal.try_half-requires-clause-half
try_half-requires-clause-half c =
    lost_half c.args.seat.now.view c.claim_first-word.new.seat.view c.args.cell c.claim_first-word.result c.args.code c.claim_first-word.ensures.view c.if-word-eq0.false c.if-word-code.true

pub returns-then-word-code-clause-told : goal.returns-then-word-code-clause-told
returns-then-word-code-clause-told c =
    let looked = tried_looked c.args.seat.now.view c.claim_first-word.new.seat.view c.args.cell c.claim_first-word.result c.args.code c.claim_first-word.ensures.view in
    tries_then c.args.seat.now.view c.claim_first-word.new.seat.view looked c.try_half.new.seat.view c.args.cell c.args.code c.args.origin c.args.last c.try_half.result c.try_half.ensures.told

pub seek_room_first-word-requires-clause-searched : goal.seek_room_first-word-requires-clause-searched
seek_room_first-word-requires-clause-searched c =
    let looked = tried_looked c.args.seat.now.view c.claim_first-word.new.seat.view c.args.cell c.claim_first-word.result c.args.code c.claim_first-word.ensures.view in
    (probing_looked c.args.graph.now c.args.seat.now c.claim_first-word.new.seat c.args.code c.args.cell c.args.last c.requires.probing c.claim_first-word.ensures.table looked).searched

pub seek_room_first-word-requires-clause-origin : goal.seek_room_first-word-requires-clause-origin
seek_room_first-word-requires-clause-origin c =
    let looked = tried_looked c.args.seat.now.view c.claim_first-word.new.seat.view c.args.cell c.claim_first-word.result c.args.code c.claim_first-word.ensures.view in
    origin_looked c.args.seat.now.view c.claim_first-word.new.seat.view looked c.args.code c.args.origin c.requires.origin

pub returns-then-last-clause-told : goal.returns-then-last-clause-told
returns-then-last-clause-told c =
    lost_last c.args.seat.now.view c.claim_first-word.new.seat.view c.args.cell c.claim_first-word.result c.args.code c.claim_first-word.ensures.view
    c.seek_room_first-word.new.seat.view c.seek_room_first-word.result c.args.last c.requires.probing.ends c.seek_room_first-word.ensures.view c.seek_room_first-word.ensures.word c.if-word-eq0.false c.if-word-code.false c.if-last.true c.requires.idle

pub returns-clause-told : goal.returns-clause-told
returns-clause-told c =
    lost_passed c.args.seat.now.view c.claim_first-word.new.seat.view c.args.cell c.claim_first-word.result c.args.code c.claim_first-word.ensures.view
    c.args.last c.if-word-eq0.false c.if-word-code.false c.if-last.false c.requires.idle

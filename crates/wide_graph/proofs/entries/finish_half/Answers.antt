use Rattle.wide_graph.proofs.Looking.{probing_looked, origin_looked}
use Rattle.wide_graph.proofs.Trying.{finished_met, beaten_looked, beaten_passed, beaten_last}
use Rattle.wide_graph.proofs.entries.finish_half.Goals as goal

pub seek_room_second-word-requires-clause-searched : goal.seek_room_second-word-requires-clause-searched
seek_room_second-word-requires-clause-searched c =
    let looked = beaten_looked c.args.seat.now.view c.claim_second-word.new.seat.view c.args.cell c.claim_second-word.result c.args.code c.args.origin c.claim_second-word.ensures.view c.if-word-eq0.false c.if-word-code.false in
    (probing_looked c.args.graph.now c.args.seat.now c.claim_second-word.new.seat c.args.code c.args.cell c.args.last c.requires.probing c.claim_second-word.ensures.table looked).searched

pub seek_room_second-word-requires-clause-origin : goal.seek_room_second-word-requires-clause-origin
seek_room_second-word-requires-clause-origin c =
    let looked = beaten_looked c.args.seat.now.view c.claim_second-word.new.seat.view c.args.cell c.claim_second-word.result c.args.code c.args.origin c.claim_second-word.ensures.view c.if-word-eq0.false c.if-word-code.false in
    origin_looked c.args.seat.now.view c.claim_second-word.new.seat.view looked c.args.code c.args.origin c.requires.origin

pub returns-then-last-clause-told : goal.returns-then-last-clause-told
returns-then-last-clause-told c =
    beaten_last c.args.seat.now.view c.claim_second-word.new.seat.view c.args.cell c.claim_second-word.result c.args.code c.args.origin c.claim_second-word.ensures.view
    c.seek_room_second-word.new.seat.view c.seek_room_second-word.result c.args.last c.requires.probing.ends c.seek_room_second-word.ensures.view c.claim_second-word.ensures.word c.seek_room_second-word.ensures.word c.if-word-eq0.false c.if-word-code.false c.if-last.true c.requires.idle

pub returns-clause-told : goal.returns-clause-told
returns-clause-told c =
    beaten_passed c.args.seat.now.view c.claim_second-word.new.seat.view c.args.cell c.claim_second-word.result c.args.code c.args.origin c.claim_second-word.ensures.view
    c.args.last c.requires.probing.code c.claim_second-word.ensures.word c.if-word-eq0.false c.if-word-code.false c.if-last.false c.requires.idle

pub returns-then-word-code-clause-told : goal.returns-then-word-code-clause-told
returns-then-word-code-clause-told c =
    finished_met c.args.seat.now.view c.claim_second-word.new.seat.view c.args.cell c.claim_second-word.result c.args.code c.args.origin c.claim_second-word.ensures.view
    c.if-word-eq0.false c.if-word-code.true c.requires.idle

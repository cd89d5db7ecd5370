use Rattle.std.proofs.Common.{◌<◌, ◌+◌, ◌∙◌, ap, sym, subst, All, List, [], length, arith}
use Rattle.session_desk.specs.declared.reply.Reply.{Reply}
use Rattle.session_desk.specs.Texts.{IsPrintable}
use Rattle.std.proofs.lemmas.List.{get_or_read}
use Rattle.answer_text.specs.Texts.{session_text, sessions_text}
use Rattle.answer_text.proofs.Loops.{next_more, next_stopped, next_all}
use Rattle.answer_text.proofs.Printed.{prints_nothing}
use Rattle.answer_text.proofs.sessions.print_sessions.Goals as goal

pub sessions-init : goal.sessions-init
sessions-init g c = prints_nothing tt _ _ _

pub sessions-preserved : goal.sessions-preserved
sessions-preserved g c =
    let text = session_text c.args.space.now in
    let below : c.sessions.place < length (c.args.told.now) = omega arith in
    let is = ap (session_text c.args.space.now (c.sessions.place + 1)) (c.as_slice.ensures ∙ get_or_read c.args.told.now c.sessions.place c.index-told-place.result below c.index-told-place.is []) in
    next_more text 1 (c.sessions.place + 1) (c.args.told.now) c.sessions.place [] (omega arith) below is c.sessions.invariant c.in_ok-print_session.ensures

pub returns-in_err-print_session : goal.returns-in_err-print_session
unfolding sessions_text
returns-in_err-print_session g c =
    let text = session_text c.args.space.now in
    let below : c.sessions.place < length (c.args.told.now) = omega arith in
    let is = ap (session_text c.args.space.now (c.sessions.place + 1)) (c.as_slice.ensures ∙ get_or_read c.args.told.now c.sessions.place c.index-told-place.result below c.index-told-place.is []) in
    next_stopped text 1 (c.sessions.place + 1) (c.args.told.now) c.sessions.place [] (omega arith) below is _ c.from_residual.ensures.1 c.sessions.invariant c.in_err-print_session.ensures

pub returns : goal.returns
unfolding sessions_text
returns g c = next_all (session_text c.args.space.now) 1 (c.args.told.now) c.sessions.place (omega arith) c.sessions.invariant

pub print_session-requires : goal.print_session-requires
print_session-requires g c =
    let below : c.sessions.place < length c.args.told.now = omega arith in
    let here = c.as_slice.ensures ∙ get_or_read c.args.told.now c.sessions.place c.index-told-place.result below c.index-told-place.is [] in
    subst (λ (replies : List Reply). All (IsPrintable c.args.space.now) replies) (sym here) (c.requires.printable c.sessions.place below)

use Rattle.std.proofs.Common.{◌∙◌, ap}
use Rattle.crystal_streams.specs.Lines.{ended}
use Rattle.answer_text.specs.Texts.{session_text, session_head}
use Rattle.answer_text.proofs.Printed.{prints_as, prints_then, prints_short, prints_failed}
use Rattle.answer_text.proofs.sessions.print_session.Goals as goal

pub returns-in_err-print_line : goal.returns-in_err-print_line
unfolding session_text session_head
returns-in_err-print_line g c = prints_failed _ c.from_residual.ensures.1 (prints_short _ (prints_as (ap ended (c.keyed_line.ensures.text ∙ ap session_head c.from.ensures)) c.in_err-print_line.ensures))

pub returns : goal.returns
unfolding session_text session_head
returns g c = prints_then (prints_as (ap ended (c.keyed_line.ensures.text ∙ ap session_head c.from.ensures)) c.in_ok-print_line.ensures) c.print_replies.ensures

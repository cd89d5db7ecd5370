use Rattle.std.proofs.Common.{Ok, take}
use Rattle.answer_text.specs.Texts.{reply_lines}
use Rattle.answer_text.specs.Prints.{Prints}
use Rattle.answer_text.proofs.sessions.print_replies.Given as goal

abbrev pub invariant-replies : goal.invariant-replies
invariant-replies g l =
    Prints {T = Unit {0}} {E = Unit {0}} (g.W.Sink.taken l.fn.sink) (g.W.Sink.taken l.sink) (g.W.Sink.faults l.fn.sink) (g.W.Sink.faults l.sink) l.fn.page l.page
    (reply_lines l.space (take l.reply-index l.replies)) (Ok tt)

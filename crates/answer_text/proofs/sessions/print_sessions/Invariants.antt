use Rattle.std.proofs.Common.{Ok, take}
use Rattle.answer_text.specs.Texts.{numbered, session_text}
use Rattle.answer_text.specs.Prints.{Prints}
use Rattle.answer_text.proofs.sessions.print_sessions.Given as goal

abbrev pub invariant-sessions : goal.invariant-sessions
invariant-sessions g l =
    Prints {T = Unit {0}} {E = Unit {0}} (g.W.Sink.taken l.fn.sink) (g.W.Sink.taken l.sink) (g.W.Sink.faults l.fn.sink) (g.W.Sink.faults l.sink) l.fn.page l.page
    (numbered (session_text l.space) 1 (take l.place l.told)) (Ok tt)

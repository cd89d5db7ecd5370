use Rattle.std.proofs.Common.{Ok, take}
use Rattle.answer_text.specs.Answers.{asks_text}
use Rattle.answer_text.specs.Prints.{Prints}
use Rattle.answer_text.proofs.asks.print_asks.Given as goal

abbrev pub invariant-asks : goal.invariant-asks
invariant-asks g l =
    Prints {T = Unit {0}} {E = Unit {0}} (g.W.Sink.taken l.fn.sink) (g.W.Sink.taken l.sink) (g.W.Sink.faults l.fn.sink) (g.W.Sink.faults l.sink) l.fn.page l.page
    (asks_text l.finished (take l.ask-index l.asks)) (Ok tt)

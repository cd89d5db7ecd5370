use Rattle.std.proofs.Common.{Ok, take}
use Rattle.answer_text.specs.Modes.{arrow_tokens}
use Rattle.answer_text.specs.Prints.{Prints}
use Rattle.answer_text.proofs.matches.print_arrows.Given as goal

abbrev pub invariant-arrows : goal.invariant-arrows
invariant-arrows g l =
    Prints {T = Unit {0}} {E = Unit {0}} (g.W.Sink.taken l.fn.sink) (g.W.Sink.taken l.sink) (g.W.Sink.faults l.fn.sink) (g.W.Sink.faults l.sink) l.fn.page l.page
    (arrow_tokens (take l.arrow-index l.walk)) (Ok tt)

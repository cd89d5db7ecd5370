use Rattle.std.proofs.Common.{Ok, take}
use Rattle.answer_text.specs.Answers.{reports_text}
use Rattle.answer_text.specs.Prints.{Prints}
use Rattle.answer_text.proofs.graphs.print_reports.Given as goal

abbrev pub invariant-reports : goal.invariant-reports
invariant-reports g l =
    Prints {T = Unit {0}} {E = Unit {0}} (g.W.Sink.taken l.fn.sink) (g.W.Sink.taken l.sink) (g.W.Sink.faults l.fn.sink) (g.W.Sink.faults l.sink) l.fn.page l.page
    (reports_text (take l.report-index l.reports)) (Ok tt)

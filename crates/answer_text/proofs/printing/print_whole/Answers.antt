use Rattle.std.proofs.Common.{ap}
use Rattle.answer_text.specs.Answers.{asks_text, reports_text}
use Rattle.answer_text.proofs.Printed.{prints_as, prints_then, prints_short, prints_failed}
use Rattle.answer_text.proofs.printing.print_whole.Goals as goal

pub returns-in_err-print_graph : goal.returns-in_err-print_graph
returns-in_err-print_graph g c = prints_failed _ c.from_residual.ensures.1 (prints_short _ (prints_short _ c.in_err-print_graph.ensures))

pub returns-in_err-print_reports : goal.returns-in_err-print_reports
returns-in_err-print_reports g c =
    prints_failed _ c.from_residual-in_err-print_reports.ensures.1
    (prints_short _ (prints_then c.in_ok-print_graph.ensures (prints_as (ap reports_text c.as_slice-reports.ensures.value) c.in_err-print_reports.ensures)))

pub returns : goal.returns
returns g c =
    prints_then (prints_then c.in_ok-print_graph.ensures (prints_as (ap reports_text c.as_slice-reports.ensures.value) c.in_ok-print_reports.ensures))
    (prints_as (ap (asks_text c.args.whole.now.finished) c.as_slice-asks.ensures.value) c.print_asks.ensures)

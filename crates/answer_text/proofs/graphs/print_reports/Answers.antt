use Rattle.std.proofs.Common.{◌<◌, ap, length, arith}
use Rattle.std.specs.Prelude.{string_bytes}
use Rattle.answer_text.specs.Texts.{statistic_text}
use Rattle.answer_text.specs.declared.answers.Report.{Report}
use Rattle.answer_text.proofs.Loops.{each_more, each_stopped, each_all}
use Rattle.answer_text.proofs.Printed.{prints_nothing}
use Rattle.answer_text.proofs.graphs.print_reports.Goals as goal

pub reports-init : goal.reports-init
reports-init g c = prints_nothing tt _ _ _

pub reports-preserved : goal.reports-preserved
reports-preserved g c =
    let text = λ (report : Report). statistic_text (string_bytes report.name) report.bytes.items in
    let below : c.reports.report-index < length (c.args.reports.now) = omega arith in
    let is = ap text c.report-item.is in
    each_more text (c.args.reports.now) c.reports.report-index c.report-item.result below is c.reports.invariant c.in_ok-print_report.ensures

pub returns-in_err-print_report : goal.returns-in_err-print_report
returns-in_err-print_report g c =
    let text = λ (report : Report). statistic_text (string_bytes report.name) report.bytes.items in
    let below : c.reports.report-index < length (c.args.reports.now) = omega arith in
    let is = ap text c.report-item.is in
    each_stopped text (c.args.reports.now) c.reports.report-index c.report-item.result below is _ c.from_residual.ensures.1 c.reports.invariant c.in_err-print_report.ensures

pub returns : goal.returns
returns g c = each_all (λ (report : Report). statistic_text (string_bytes report.name) report.bytes.items) (c.args.reports.now) c.reports.report-index (omega arith) c.reports.invariant

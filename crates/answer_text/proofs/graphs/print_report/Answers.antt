use Rattle.std.proofs.Common.{◌∙◌, ap}
use Rattle.crystal_streams.specs.Lines.{ended}
use Rattle.answer_text.specs.Texts.{statistic_head, statistic_text}
use Rattle.answer_text.proofs.Printed.{prints_as, prints_then, prints_short, prints_failed}
use Rattle.answer_text.proofs.graphs.print_report.Goals as goal

pub returns-in_err-print_line : goal.returns-in_err-print_line
unfolding statistic_text
returns-in_err-print_line g c =
    prints_failed _ c.from_residual.ensures.1 (prints_short _ (prints_as (ap ended (c.statistic_head.ensures ∙ ap statistic_head c.as_bytes.ensures.value)) c.in_err-print_line.ensures))

pub returns : goal.returns
unfolding statistic_text
returns g c =
    prints_then (prints_as (ap ended (c.statistic_head.ensures ∙ ap statistic_head c.as_bytes.ensures.value)) c.in_ok-print_line.ensures)
    (prints_as c.as_slice.ensures.value c.print_text.ensures)

use Rattle.std.proofs.Common.{◌∙◌, ap}
use Rattle.crystal_streams.specs.Lines.{ended}
use Rattle.answer_text.specs.Modes.{sample_line, sessions_line, commands_line}
use Rattle.answer_text.proofs.Printed.{prints_as, prints_then, prints_short, prints_failed}
use Rattle.answer_text.proofs.samples.print_sample.Goals as goal

pub returns-in_err-print_line : goal.returns-in_err-print_line
unfolding sample_line sessions_line commands_line
returns-in_err-print_line g c = prints_failed _ c.from_residual.ensures.1 (prints_short _ (prints_short _ (prints_short _ (prints_short _ (prints_short _ (prints_as (ap ended (c.keyed_line.ensures.text ∙ ap sample_line c.from.ensures)) c.in_err-print_line.ensures))))))

pub returns-in_err-print_head : goal.returns-in_err-print_head
unfolding sample_line sessions_line commands_line
returns-in_err-print_head g c = prints_failed _ c.from_residual-in_err-print_head.ensures.1 (prints_short _ (prints_short _ (prints_short _ (prints_short _ (prints_then (prints_as (ap ended (c.keyed_line.ensures.text ∙ ap sample_line c.from.ensures)) c.in_ok-print_line.ensures) c.in_err-print_head.ensures)))))

pub returns-in_err-print_line-2 : goal.returns-in_err-print_line-2
unfolding sample_line sessions_line commands_line
returns-in_err-print_line-2 g c = prints_failed _ c.from_residual-in_err-print_line-2.ensures.1 (prints_short _ (prints_short _ (prints_short _ (prints_then (prints_then (prints_as (ap ended (c.keyed_line.ensures.text ∙ ap sample_line c.from.ensures)) c.in_ok-print_line.ensures) c.in_ok-print_head.ensures) (prints_as (ap ended (c.keyed_line-2.ensures.text ∙ ap sessions_line c.from-2.ensures)) c.in_err-print_line-2.ensures)))))

pub returns-in_err-print_line-3 : goal.returns-in_err-print_line-3
unfolding sample_line sessions_line commands_line
returns-in_err-print_line-3 g c = prints_failed _ c.from_residual-in_err-print_line-3.ensures.1 (prints_short _ (prints_short _ (prints_then (prints_then (prints_then (prints_as (ap ended (c.keyed_line.ensures.text ∙ ap sample_line c.from.ensures)) c.in_ok-print_line.ensures) c.in_ok-print_head.ensures) (prints_as (ap ended (c.keyed_line-2.ensures.text ∙ ap sessions_line c.from-2.ensures)) c.in_ok-print_line-2.ensures)) (prints_as (ap ended (c.keyed_line-3.ensures.text ∙ ap commands_line c.from-3.ensures)) c.in_err-print_line-3.ensures))))

pub returns-in_err-print_sizes_or_full : goal.returns-in_err-print_sizes_or_full
unfolding sample_line sessions_line commands_line
returns-in_err-print_sizes_or_full g c = prints_failed _ c.from_residual-in_err-print_sizes_or_full.ensures.1 (prints_short _ (prints_then (prints_then (prints_then (prints_then (prints_as (ap ended (c.keyed_line.ensures.text ∙ ap sample_line c.from.ensures)) c.in_ok-print_line.ensures) c.in_ok-print_head.ensures) (prints_as (ap ended (c.keyed_line-2.ensures.text ∙ ap sessions_line c.from-2.ensures)) c.in_ok-print_line-2.ensures)) (prints_as (ap ended (c.keyed_line-3.ensures.text ∙ ap commands_line c.from-3.ensures)) c.in_ok-print_line-3.ensures)) c.in_err-print_sizes_or_full.ensures))

pub returns : goal.returns
unfolding sample_line sessions_line commands_line
returns g c = prints_then (prints_then (prints_then (prints_then (prints_then (prints_as (ap ended (c.keyed_line.ensures.text ∙ ap sample_line c.from.ensures)) c.in_ok-print_line.ensures) c.in_ok-print_head.ensures) (prints_as (ap ended (c.keyed_line-2.ensures.text ∙ ap sessions_line c.from-2.ensures)) c.in_ok-print_line-2.ensures)) (prints_as (ap ended (c.keyed_line-3.ensures.text ∙ ap commands_line c.from-3.ensures)) c.in_ok-print_line-3.ensures)) c.in_ok-print_sizes_or_full.ensures) c.print_end.ensures

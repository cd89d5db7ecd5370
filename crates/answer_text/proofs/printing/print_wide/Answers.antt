use Rattle.answer_text.proofs.Printed.{prints_then, prints_short, prints_failed}
use Rattle.answer_text.proofs.printing.print_wide.Goals as goal

pub returns-in_err-print_head : goal.returns-in_err-print_head
returns-in_err-print_head g c = prints_failed _ c.from_residual.ensures.1 (prints_short _ (prints_short _ c.in_err-print_head.ensures))

pub returns-in_err-print_counts : goal.returns-in_err-print_counts
returns-in_err-print_counts g c = prints_failed _ c.from_residual-in_err-print_counts.ensures.1 (prints_short _ (prints_then c.in_ok-print_head.ensures c.in_err-print_counts.ensures))

pub returns : goal.returns
returns g c = prints_then (prints_then c.in_ok-print_head.ensures c.in_ok-print_counts.ensures) c.print_end.ensures

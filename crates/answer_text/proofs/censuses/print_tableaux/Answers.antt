use Rattle.std.proofs.Common.{ap}
use Rattle.crystal_streams.specs.Lines.{ended}
use Rattle.answer_text.specs.Modes.{tableaux_text, tableaux_line}
use Rattle.answer_text.proofs.Printed.{prints_as, prints_then, prints_short, prints_failed}
use Rattle.answer_text.proofs.censuses.print_tableaux.Goals as goal

pub returns-in_err-print_line : goal.returns-in_err-print_line
unfolding tableaux_text tableaux_line
returns-in_err-print_line g c = prints_failed _ c.from_residual.ensures.1 (prints_short _ (prints_as (ap ended c.keyed_line.ensures.text) c.in_err-print_line.ensures))

pub returns : goal.returns
unfolding tableaux_text tableaux_line
returns g c = prints_then (prints_as (ap ended c.keyed_line.ensures.text) c.in_ok-print_line.ensures) c.print_readings.ensures

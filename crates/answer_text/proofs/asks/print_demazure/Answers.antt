use Rattle.std.proofs.Common.{ap}
use Rattle.crystal_streams.specs.Lines.{ended}
use Rattle.answer_text.specs.Asks.{demazure_text}
use Rattle.answer_text.proofs.Printed.{prints_as, prints_then, prints_short, prints_failed}
use Rattle.answer_text.proofs.asks.print_demazure.Goals as goal

pub returns-in_err-print_line : goal.returns-in_err-print_line
unfolding demazure_text
returns-in_err-print_line g c = prints_failed _ c.from_residual.ensures.1 (prints_short _ (prints_as (ap ended c.demazure_head.ensures) c.in_err-print_line.ensures))

pub returns : goal.returns
unfolding demazure_text
returns g c = prints_then (prints_as (ap ended c.demazure_head.ensures) c.in_ok-print_line.ensures) c.print_members.ensures

use Rattle.std.proofs.Common.{ap}
use Rattle.crystal_streams.specs.Lines.{ended}
use Rattle.answer_text.specs.Texts.{full_line}
use Rattle.answer_text.proofs.Printed.{prints_as}
use Rattle.answer_text.proofs.heads.print_full.Goals as goal

pub returns : goal.returns
unfolding full_line
returns g c = prints_as (ap ended c.line_of.ensures) c.print_line.ensures

use Rattle.std.proofs.Common.{ap}
use Rattle.crystal_streams.specs.Lines.{ended}
use Rattle.answer_text.proofs.Printed.{prints_as}
use Rattle.answer_text.proofs.graphs.print_sizes.Goals as goal

pub returns : goal.returns
returns g c = prints_as (ap ended c.graph_head.ensures) c.print_line.ensures

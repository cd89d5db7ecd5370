use Rattle.std.proofs.Common.{ap}
use Rattle.crystal_streams.specs.Lines.{ended}
use Rattle.answer_text.proofs.Printed.{prints_as}
use Rattle.answer_text.proofs.heads.print_job_refusal.Goals as goal

pub returns : goal.returns
returns g c = prints_as (ap ended c.refused_job.ensures) c.print_line.ensures

use Rattle.crystal_shell.proofs.Cases.Census.{listed_counts, many_counts}
use Rattle.crystal_shell.proofs.modes.census.count.Goals as goal

pub returns-in-Ok-clause-counts : goal.returns-in-Ok-clause-counts
returns-in-Ok-clause-counts c =
    let a = c.without_history in
    listed_counts c.args.shape c.in-Ok.list a.result.status a.result.answer c.in-Ok.ensures a.ensures.status a.ensures.answer

pub returns-in-Err-TooMany-clause-counts : goal.returns-in-Err-TooMany-clause-counts
returns-in-Err-TooMany-clause-counts c =
    let a = c.without_history-in-Err-TooMany in
    many_counts c.args.shape a.result.status a.result.answer (rw c.in-Err-TooMany.field-0-is at c.in-Err-TooMany.ensures) a.ensures.status a.ensures.answer

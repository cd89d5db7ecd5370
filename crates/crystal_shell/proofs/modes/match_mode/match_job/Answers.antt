use Rattle.std.proofs.Common.{◌≡◌, ◌≤◌, ◌<◌, length, Err, ap, arith}
use Rattle.crystal_shell.proofs.Cases.Match.{few_compares, many_compares, marks, verdict_compares}
use Rattle.crystal_shell.proofs.modes.match_mode.match_job.Goals as goal

pub returns-then-len-lt2-clause-compares : goal.returns-then-len-lt2-clause-compares
returns-then-len-lt2-clause-compares c =
    let few : length c.args.job.now.starts < 2 = omega (arith, c.len.ensures, c.if-len-lt2.true) in
    let a = c.refused_job in
    few_compares c.args.relabelling c.args.job.now a.result.status a.result.answer few a.ensures.status (rw c.number.ensures at a.ensures.answer)

pub returns-in-Ok-clause-compares : goal.returns-in-Ok-clause-compares
returns-in-Ok-clause-compares c =
    let two : 2 ≤ length c.args.job.now.starts = omega (arith, c.len.ensures, c.if-len-lt2.false) in
    let is = marks c.args.relabelling c.args.job.now c.space-space.result.now c.at.result.now c.at-2.result.now c.cartan-cartan.result c.relabel_of-relabel.result
    c.space-space.ensures.space (c.at.ensures.value 0) (c.at-2.ensures.value 0) c.cartan-cartan.ensures.cartan c.relabel_of-relabel.ensures in
    let kind : c.cartan-cartan.result ≡ c.args.job.now.world.space.cartan = rw c.space-space.ensures.space at c.cartan-cartan.ensures.cartan in
    let a = c.compared in
    verdict_compares c.args.relabelling c.args.job.now _ c.cells.result c.cartan-cartan.result a.result.status a.result.answer
    is c.cells.ensures.cells kind two _ c.in-Ok.ensures.verdict c.in-Ok.ensures.fits a.ensures.status a.ensures.answer

pub returns-in-Err-TooMany-clause-compares : goal.returns-in-Err-TooMany-clause-compares
returns-in-Err-TooMany-clause-compares c =
    let two : 2 ≤ length c.args.job.now.starts = omega (arith, c.len.ensures, c.if-len-lt2.false) in
    let is = marks c.args.relabelling c.args.job.now c.space-space.result.now c.at.result.now c.at-2.result.now c.cartan-cartan.result c.relabel_of-relabel.result
    c.space-space.ensures.space (c.at.ensures.value 0) (c.at-2.ensures.value 0) c.cartan-cartan.ensures.cartan c.relabel_of-relabel.ensures in
    let kind : c.cartan-cartan.result ≡ c.args.job.now.world.space.cartan = rw c.space-space.ensures.space at c.cartan-cartan.ensures.cartan in
    let a = c.without_history in
    many_compares c.args.relabelling c.args.job.now _ c.cells.result c.cartan-cartan.result a.result.status a.result.answer
    is c.cells.ensures.cells kind two (c.in-Err-TooMany.ensures.many (ap Err c.in-Err-TooMany.field-0-is)) a.ensures.status a.ensures.answer

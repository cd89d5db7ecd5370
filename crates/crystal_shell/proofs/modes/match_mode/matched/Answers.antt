use Rattle.crystal_shell.proofs.Cases.Match.{refusal_compares}
use Rattle.crystal_shell.proofs.modes.match_mode.matched.Goals as goal

pub returns-in-Refused-clause-compares : goal.returns-in-Refused-clause-compares
returns-in-Refused-clause-compares c =
    let a = c.refused_job in
    refusal_compares c.args.relabelling c.args.input c.in-Refused.line c.in-Refused.fault a.result.status a.result.answer c.in-Refused.is a.ensures.status a.ensures.answer

pub returns-in-Taken-clause-compares : goal.returns-in-Taken-clause-compares
returns-in-Taken-clause-compares c = rw c.in-Taken.is c.match_job.ensures.compares

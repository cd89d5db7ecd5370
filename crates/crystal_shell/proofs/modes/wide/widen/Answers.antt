use Rattle.crystal_shell.proofs.Cases.Wide.{refusal_widens}
use Rattle.crystal_shell.proofs.modes.wide.widen.Goals as goal

pub returns-in-Refused-clause-widens : goal.returns-in-Refused-clause-widens
returns-in-Refused-clause-widens g c =
    let a = c.refused_job in
    refusal_widens c.args.input c.in-Refused.line c.in-Refused.fault a.result.status a.result.answer c.in-Refused.is a.ensures.status a.ensures.answer

pub returns-in-Taken-clause-widens : goal.returns-in-Taken-clause-widens
returns-in-Taken-clause-widens g c = rw c.in-Taken.is c.widen_job.ensures.widens

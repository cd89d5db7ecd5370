use Rattle.crystal_shell.proofs.Cases.Grow.{refusal_grows}
use Rattle.crystal_shell.proofs.modes.grow.grow.Goals as goal

pub returns-in-Refused-clause-grows : goal.returns-in-Refused-clause-grows
returns-in-Refused-clause-grows g c =
    let a = c.refused_job in
    refusal_grows _ c.args.places.now c.args.input c.in-Refused.line c.in-Refused.fault a.result.status a.result.front a.result.held a.result.answer c.in-Refused.is
    a.ensures.status a.ensures.unkept.0 a.ensures.unkept.1 a.ensures.answer

pub returns-in-Taken-clause-grows : goal.returns-in-Taken-clause-grows
returns-in-Taken-clause-grows g c = rw c.in-Taken.is c.grow_job.ensures.grows

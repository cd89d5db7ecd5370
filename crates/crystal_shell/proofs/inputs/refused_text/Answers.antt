use Rattle.std.proofs.Common.{Err, subst}
use Rattle.job_text.specs.Judge.{judge}
use Rattle.job_text.specs.Outcomes.{GivesAtLine}
use Rattle.job_text.specs.declared.faults.JobFault.{JobFault}
use Rattle.crystal_shell.proofs.Texts.{fault_judged}
use Rattle.crystal_shell.proofs.inputs.refused_text.Goals as goal

pub returns-in-At-clause-judged : goal.returns-in-At-clause-judged
returns-in-At-clause-judged c = λ input told.
    fault_judged input c.in-At.line c.number.result c.in-At.why c.number.ensures (subst (λ (e : JobFault). GivesAtLine (Err e) (judge input)) c.in-At.is told)

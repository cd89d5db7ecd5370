use Rattle.std.proofs.Common.{◌≡◌}
use Rattle.session_desk.proofs.JobScripts.{scripts_asked}
use Rattle.job_text.proofs.Starts.{starts_are_roots}
use Rattle.crystal_shell.proofs.Cases.Sample.{run_sampled}
use Rattle.crystal_shell.proofs.modes.sample.sample.Goals as goal

pub run_beside-requires-clause-rooted : goal.run_beside-requires-clause-rooted
run_beside-requires-clause-rooted g c = λ lifetimes outlive. starts_are_roots c.in_ok-job.job c.in_ok-job.ensures.job

pub run_beside-requires-clause-asked : goal.run_beside-requires-clause-asked
run_beside-requires-clause-asked g c = λ lifetimes outlive. scripts_asked c.in_ok-job.job c.in_ok-job.ensures.job

pub returns-clause-samples : goal.returns-clause-samples
returns-clause-samples g c =
    let ran = c.in_ok-_told.field-0 in
    let kind : c.cartan-cartan.result ≡ c.in_ok-job.job.world.space.cartan = rw c.space.ensures.space at c.cartan-cartan.ensures.cartan in
    run_sampled c.args.number c.in_ok-job.job ran.finished ran.front ran.held ran.told.items c.status_of.result c.cartan-cartan.result
    c.in_ok-job.ensures.sample.judged c.in_ok-_told.ensures.history c.in_ok-_told.ensures.ends c.in_ok-_told.ensures.held c.status_of.ensures kind

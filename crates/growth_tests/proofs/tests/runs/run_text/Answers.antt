use Rattle.session_desk.proofs.JobScripts.{scripts_asked}
use Rattle.job_text.proofs.Starts.{starts_are_roots}
use Rattle.growth_tests.proofs.tests.runs.run_text.Goals as goal

pub run_beside-requires-clause-rooted : goal.run_beside-requires-clause-rooted
run_beside-requires-clause-rooted g c κs within = starts_are_roots c.in-Ok.field-0 c.in-Ok.ensures.job

pub run_beside-requires-clause-asked : goal.run_beside-requires-clause-asked
run_beside-requires-clause-asked g c κs within = scripts_asked c.in-Ok.field-0 c.in-Ok.ensures.job

use Rattle.std.proofs.Common.{◌≡◌, sym, ap, subst, All}
use Rattle.tensor_words.specs.Worlds.{WorldType}
use Rattle.graph_history.specs.Plain.{PlainValue}
use Rattle.session_desk.specs.Sessions.{IsAsked}
use Rattle.session_desk.proofs.JobScripts.{scripts_asked}
use Rattle.job_tests.proofs.tests.desks.told.Goals as goal

pub run_sessions-requires-clause-asked : goal.run_sessions-requires-clause-asked
run_sessions-requires-clause-asked c =
    let taken : c.in_ok-desk-in-Ok.desk.world ≡ c.in-Ok.field-0.world = ap (λ (v : PlainValue). v.world) c.in_ok-desk-in-Ok.ensures in
    subst (λ (w : WorldType). All (All (IsAsked w)) c.in-Ok.field-0.scripts) (sym taken) (scripts_asked c.in-Ok.field-0 c.in-Ok.ensures.job)

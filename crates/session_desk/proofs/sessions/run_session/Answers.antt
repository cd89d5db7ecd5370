use Rattle.session_desk.proofs.Apart.{calls_kept, continues_as, ran_alone}
use Rattle.session_desk.proofs.sessions.run_session.Goals as goal

pub returns-clause-others : goal.returns-clause-others
returns-clause-others c =
    calls_kept c.args.desk.now c.call_as.new.self c.run_script.new.desk c.args.caller c.call_as.ensures c.run_script.ensures.ran.goes.caller c.run_script.ensures.ran.goes.bond

pub returns-clause-begins : goal.returns-clause-begins
returns-clause-begins c =
    continues_as c.args.desk.now c.call_as.new.self c.args.caller c.run_script.new.desk.front c.run_script.ensures.ran.goes.grows.more c.call_as.ensures c.run_script.ensures.ran.goes.grows.is

pub returns-clause-ran : goal.returns-clause-ran
returns-clause-ran c =
    rw c.of.ensures
    (ran_alone c.args.desk.now c.call_as.new.self c.run_script.new.desk c.args.caller c.args.script.now _ _ c.call_as.ensures c.requires.fresh c.in_ok-list.ensures.items c.run_script.ensures.ran)

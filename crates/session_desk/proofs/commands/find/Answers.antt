use Rattle.std.proofs.Common.{sym, subst}
use Rattle.job_text.specs.declared.commands.Command.TheVariants.{Find}
use Rattle.session_desk.specs.declared.reply.Reply.{Reply}
use Rattle.session_desk.specs.Sessions.{IsAnswered}
use Rattle.session_desk.proofs.Rows.{find_told}
use Rattle.session_desk.proofs.commands.find.Goals as goal

pub returns : goal.returns
returns g c =
    subst (λ (r : Reply). IsAnswered (g.D.Desk.standing c.args.desk.now) (g.D.Desk.standing c.find-found.new.self) 0 (Find c.args.code) r) (sym c.reply_to_find.ensures)
    (find_told (g.D.Desk.standing c.args.desk.now) (g.D.Desk.standing c.find-found.new.self) c.args.code c.find-found.result c.find-found.ensures)

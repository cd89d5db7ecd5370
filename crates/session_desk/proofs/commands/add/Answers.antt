use Rattle.std.proofs.Common.{sym, subst}
use Rattle.job_text.specs.declared.commands.Command.TheVariants.{Add}
use Rattle.session_desk.specs.declared.reply.Reply.{Reply}
use Rattle.session_desk.specs.Sessions.{IsAnswered}
use Rattle.session_desk.proofs.Rows.{add_told}
use Rattle.session_desk.proofs.commands.add.Goals as goal

pub returns : goal.returns
returns g c =
    subst (λ (r : Reply). IsAnswered (g.D.Desk.standing c.args.desk.now) (g.D.Desk.standing c.add-added.new.self) 1 (Add c.args.code) r) (sym c.reply_to_add.ensures)
    (add_told (g.D.Desk.standing c.args.desk.now) (g.D.Desk.standing c.add-added.new.self) c.args.code c.add-added.result c.add-added.ensures)

use Rattle.std.proofs.Common.{sym, subst}
use Rattle.job_text.specs.declared.commands.Command.TheVariants.{Done}
use Rattle.session_desk.specs.declared.reply.Reply.{Reply}
use Rattle.session_desk.specs.Sessions.{IsAnswered}
use Rattle.session_desk.proofs.Rows.{done_told}
use Rattle.session_desk.proofs.commands.ask_debts.Goals as goal

pub returns : goal.returns
returns g c =
    subst (λ (r : Reply). IsAnswered (g.D.Desk.standing c.args.desk.now) (g.D.Desk.standing c.tally-debts.new.self) 0 Done r) (sym c.reply_to_debts.ensures)
    (done_told (g.D.Desk.standing c.args.desk.now) (g.D.Desk.standing c.tally-debts.new.self) c.tally-debts.result c.tally-debts.ensures.does)

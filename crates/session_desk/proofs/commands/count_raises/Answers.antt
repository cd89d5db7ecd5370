use Rattle.std.proofs.Common.{refl}
use Rattle.job_text.specs.declared.commands.Command.TheVariants.{Eps}
use Rattle.session_desk.specs.declared.reply.Reply.TheVariants.{Number}
use Rattle.session_desk.specs.Replies.{eps_at}
use Rattle.session_desk.proofs.Rows.{value_told}
use Rattle.session_desk.proofs.commands.count_raises.Goals as goal

pub returns : goal.returns
returns g c =
    value_told (g.D.Desk.standing c.args.desk.now) c.space-space.result.now (Eps c.args.index c.args.code) (λ v. Number (eps_at v c.args.index c.args.code)) c.eps_reply.result (λ v rest. refl)
    c.space-space.ensures.legal c.space-space.ensures.space c.eps_reply.ensures.reply c.eps_reply.ensures.printable

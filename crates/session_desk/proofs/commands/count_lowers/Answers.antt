use Rattle.std.proofs.Common.{refl}
use Rattle.job_text.specs.declared.commands.Command.TheVariants.{Phi}
use Rattle.session_desk.specs.declared.reply.Reply.TheVariants.{Number}
use Rattle.session_desk.specs.Replies.{phi_at}
use Rattle.session_desk.proofs.Rows.{value_told}
use Rattle.session_desk.proofs.commands.count_lowers.Goals as goal

pub returns : goal.returns
returns g c =
    value_told (g.D.Desk.standing c.args.desk.now) c.space-space.result.now (Phi c.args.index c.args.code) (λ v. Number (phi_at v c.args.index c.args.code)) c.phi_reply.result (λ v rest. refl)
    c.space-space.ensures.legal c.space-space.ensures.space c.phi_reply.ensures.reply c.phi_reply.ensures.printable

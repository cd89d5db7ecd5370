use Rattle.std.proofs.Common.{refl}
use Rattle.job_text.specs.declared.commands.Command.TheVariants.{Wt}
use Rattle.session_desk.specs.declared.reply.Reply.TheVariants.{Weight}
use Rattle.session_desk.specs.Replies.{weight_at}
use Rattle.session_desk.proofs.Rows.{value_told}
use Rattle.session_desk.proofs.commands.weigh.Goals as goal

pub returns : goal.returns
returns g c =
    value_told (g.D.Desk.standing c.args.desk.now) c.space-space.result.now (Wt c.args.code) (λ v. Weight (weight_at v c.args.code)) c.weight_reply.result (λ v rest. refl)
    c.space-space.ensures.legal c.space-space.ensures.space c.weight_reply.ensures.reply c.weight_reply.ensures.printable

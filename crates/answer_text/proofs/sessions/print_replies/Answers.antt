use Rattle.std.proofs.Common.{◌<◌, ◌∙◌, ap, length, arith}
use Rattle.session_desk.specs.declared.reply.Reply.{Reply}
use Rattle.session_desk.specs.Texts.{reply_text}
use Rattle.crystal_streams.specs.Lines.{ended}
use Rattle.answer_text.proofs.Loops.{each_more, each_stopped, each_all}
use Rattle.answer_text.proofs.Printed.{prints_nothing}
use Rattle.answer_text.proofs.sessions.print_replies.Goals as goal

pub replies-init : goal.replies-init
replies-init g c = prints_nothing tt _ _ _

pub replies-preserved : goal.replies-preserved
replies-preserved g c =
    let text = λ (reply : Reply). ended (reply_text c.args.space.now reply) in
    let below : c.replies.reply-index < length (c.args.replies.now) = omega arith in
    let is = ap ended c.reply_line.ensures ∙ ap text c.reply-item.is in
    each_more text (c.args.replies.now) c.replies.reply-index c.reply-item.result below is c.replies.invariant c.in_ok-print_line.ensures

pub returns-in_err-print_line : goal.returns-in_err-print_line
returns-in_err-print_line g c =
    let text = λ (reply : Reply). ended (reply_text c.args.space.now reply) in
    let below : c.replies.reply-index < length (c.args.replies.now) = omega arith in
    let is = ap ended c.reply_line.ensures ∙ ap text c.reply-item.is in
    each_stopped text (c.args.replies.now) c.replies.reply-index c.reply-item.result below is _ c.from_residual.ensures.1 c.replies.invariant c.in_err-print_line.ensures

pub returns : goal.returns
returns g c = each_all (λ (reply : Reply). ended (reply_text c.args.space.now reply)) (c.args.replies.now) c.replies.reply-index (omega arith) c.replies.invariant

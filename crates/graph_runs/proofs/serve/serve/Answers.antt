use Rattle.std.proofs.Common.{sym, subst, List}
use Rattle.shared_desk.specs.SharedDesks.{DeskValue, standing_of}
use Rattle.session_desk.specs.declared.reply.Reply.{Reply}
use Rattle.session_desk.specs.Sessions.{RanScript}
use Rattle.graph_runs.specs.Serving.{IsServed}
use Rattle.graph_runs.proofs.Serving.{served}
use Rattle.graph_runs.proofs.serve.serve.Goals as goal

pub returns : goal.returns
returns c =
    let ran = subst (λ (d : DeskValue). RanScript (standing_of d) (standing_of c.run_script.new.desk) c.args.script.now c.in_ok-replies.replies.items c.run_script.new.replies.items) c.in-Ok.ensures c.run_script.ensures.ran in
    subst (λ (told : List Reply). IsServed c.args.graph.now.world c.args.script.now c.args.seat c.into_parts-seat.result.0 c.into_parts-seat.result.1.items told) (sym c.of.ensures)
    (served c.args.graph.now.world c.args.script.now c.args.seat c.len-2.result c.run_script.new.desk c.into_parts-seat.result.0 c.into_parts-seat.result.1.items
    c.in_ok-replies.replies.items c.run_script.new.replies.items c.requires.belongs.world c.in_ok-replies.ensures.items ran c.into_parts-seat.ensures.seat c.into_parts-seat.ensures.worked)

-- The growers give back what they were dealt.
use Rattle.std.proofs.Common.{◌≡◌, sym, subst, List}
use Rattle.graph_history.specs.declared.event.Event.{Event}
use Rattle.wide_growth.specs.declared.drawing.OpenVertex.{OpenVertex}
use Rattle.wide_growth.specs.Rounds.{AreBack}
use Rattle.wide_growth.proofs.Dealing.{back_all}
use Rattle.wide_growth.proofs.Rounding.{dealt_front}
use Rattle.wide_growth.proofs.rounds.draw_shared.Goals as goal

pub gather-requires-clause-back : goal.gather-requires-clause-back
gather-requires-clause-back g c =
    let d = c.in-Ok.ensures in
    subst (λ (f : List Event). AreBack c.args.graph.now f c.args.waiting.now c.in-Ok-work_all.shares.items) (sym (dealt_front c.args.graph.now c.args.seat.now c.deal.new.seat c.args.waiting.now c.args.growers c.in-Ok.jobs.items d))
    (subst (λ (l : List OpenVertex). AreBack c.args.graph.now c.args.seat.now.view.front l c.in-Ok-work_all.shares.items) d.parts
    (back_all c.args.graph.now c.args.seat.now.view.front c.in-Ok.jobs.items c.in-Ok-work_all.shares.items d.made c.in-Ok-work_all.ensures.count c.in-Ok-work_all.ensures.each))

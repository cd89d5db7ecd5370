-- The roots are the first open vertices.
use Rattle.std.proofs.Common.{◌≡◌, sym, ap, subst, ◌∙◌, List, []}
use Rattle.wide_rule.specs.Rule.{WideView}
use Rattle.wide_growth.specs.declared.drawing.OpenVertex.{OpenVertex}
use Rattle.wide_growth.specs.Drawing.{IsReady, GoesOn}
use Rattle.wide_growth.proofs.Rounding.{growing_none}
use Rattle.wide_growth.proofs.growing.grow_from.Goals as goal

pub grow-requires-clause-growing : goal.grow-requires-clause-growing
grow-requires-clause-growing g c = λ κs within.
    let ready : IsReady c.args.graph.now c.args.seat = record {
      belongs = record { table = c.requires.table; world = ap (λ (v : WideView). v.world) c.requires.view };
      idle = ap (λ (v : WideView). v.dues.pending) c.requires.view;
    } in
    growing_none c.args.graph.now c.args.seat c.enter_roots.new.seat c.enter_roots.new.added.items ready c.requires.view
    (subst (λ (l : List OpenVertex). GoesOn c.args.seat c.enter_roots.new.seat l c.enter_roots.new.added.items) c.new-waiting.ensures.items c.in-Ok.ensures.goes) c.in-Ok.ensures.there

use Rattle.std.proofs.Common.{refl}
use Rattle.graph_history.specs.declared.answer.Draw.TheVariants.{Full}
use Rattle.crystal_growers.proofs.ExpandSteps.{arrow_drawn, code_in, leads_in, arrow_full}
use Rattle.crystal_growers.proofs.expansion.draw_one.Goals as goal

pub target-code-requires-clause-code : goal.target-code-requires-clause-code
target-code-requires-clause-code g c =
    code_in (g.D.Desk.standing c.args.desk.now) (g.D.Desk.standing c.draw.new.self) _ _ _ Full c.requires.there c.requires.arrow c.in-Full.ensures refl _ c.space.ensures.space c.space-space.ensures.legal

pub target-code-requires-clause-leads : goal.target-code-requires-clause-leads
target-code-requires-clause-leads g c =
    leads_in (g.D.Desk.standing c.args.desk.now) (g.D.Desk.standing c.draw.new.self) _ _ _ Full c.requires.there c.requires.arrow c.in-Full.ensures refl _ c.space.ensures.space

pub returns-in-Full : goal.returns-in-Full
returns-in-Full g c =
    arrow_full (g.D.Desk.standing c.args.desk.now) (g.D.Desk.standing c.draw.new.self) _ _ _ Full c.requires.there c.requires.arrow c.in-Full.ensures refl _ c.space.ensures.space c.target-code.result c.target-code.ensures

pub returns : goal.returns
returns g c =
    arrow_drawn (g.D.Desk.standing c.args.desk.now) (g.D.Desk.standing c.draw.new.self) _ _ _ _ c.requires.there c.requires.arrow c.draw.ensures c.in_default.not-Full

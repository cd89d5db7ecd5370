-- Handing over no cell is a split.
use Rattle.std.proofs.Common.{◌∙◌}
use Rattle.graph_rule.proofs.Splitting.{none_left, none_right}
use Rattle.graph_rule.proofs.seat.Seat.split.Goals as goal

pub returns-clause-parent : goal.returns-clause-parent
returns-clause-parent c = c.part.ensures.parent ∙ none_left c.args.numbers c.args.stake c.args.self.now.view

pub returns-clause-child : goal.returns-clause-child
returns-clause-child c = c.part.ensures.child ∙ none_right c.args.numbers c.args.stake c.args.self.now.view

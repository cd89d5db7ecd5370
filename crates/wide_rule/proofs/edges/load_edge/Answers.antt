use Rattle.wide_rule.proofs.EdgeSteps.{word_few}
use Rattle.wide_rule.proofs.edges.load_edge.Goals as goal

pub returns-clause-target : goal.returns-clause-target
returns-clause-target c = word_few c.args.seat.now.view c.load_edge_as.new.seat.view _ _ c.args.graph.now c.args.cell c.args.arrow c.requires.belongs.world c.load_edge_as.ensures.view _ c.load_edge_as.ensures.word

use Rattle.graph_runs.proofs.Endings.{numbered}
use Rattle.graph_runs.proofs.ending.number_all.Goals as goal

pub returns-in-Ok-clause-ends : goal.returns-in-Ok-clause-ends
returns-in-Ok-clause-ends c =
    numbered c.args.graph.now c.args.seat.now c.settle-closed.result c.in-Ok.graph c.requires.belongs c.reveal.ensures.known c.settle-closed.ensures.world c.settle-closed.ensures.front
    c.settle-closed.ensures.closed c.requires.roots c.in-Ok.ensures.codes c.in-Ok.ensures.space

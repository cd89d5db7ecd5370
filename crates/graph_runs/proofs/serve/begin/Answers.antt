use Rattle.graph_runs.proofs.Serving.{adds_asked, begun}
use Rattle.graph_runs.proofs.serve.begin.Goals as goal

pub serve-requires-clause-asked : goal.serve-requires-clause-asked
serve-requires-clause-asked c = adds_asked c.args.graph.now.world c.args.starts.now c.in_ok-script.script c.in_ok-script.ensures c.requires.rooted

pub returns-in-Ok : goal.returns-in-Ok
returns-in-Ok c =
    begun c.args.graph.now c.args.starts.now c.in_ok-script.script c.args.seat c.in-Ok.served.seat c.in-Ok.served.cells.items c.in-Ok.served.replies c.in_ok-script.ensures c.requires.table
    c.requires.first c.in-Ok.ensures

use Rattle.table_calls.proofs.Drawn.{drawn_then}
use Rattle.table_calls.proofs.edges.set.Goals as goal

pub returns-clause-drawn : goal.returns-clause-drawn
returns-clause-drawn c = drawn_then c.args.seat.now.view c.claim_edge.new.seat.view _ c.args.cell c.args.arrow c.args.to _ c.claim_edge.ensures.view

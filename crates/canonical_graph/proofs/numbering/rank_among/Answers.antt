use Rattle.canonical_graph.proofs.Ranks.{found_rank, missing_rank}
use Rattle.canonical_graph.proofs.numbering.rank_among.Goals as goal

pub returns-in-Ok-clause-rank : goal.returns-in-Ok-clause-rank
returns-in-Ok-clause-rank c = found_rank c.args.codes.now c.args.code _ c.requires.ascending c.in-Ok.ensures.position

pub returns-in-Err-clause-rank : goal.returns-in-Err-clause-rank
returns-in-Err-clause-rank c = missing_rank c.args.codes.now c.args.code _ c.requires.ascending c.in-Err.ensures.position
